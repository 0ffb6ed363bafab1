-- Entries that were read in a dictionary can be written again.
use Rattle.std.proofs.Common.{◌≡◌, ℕ, zero, suc, ◌+◌, ◌≤◌, Bool, true, false, eqb, [], ◌∷◌, ◌++◌, length, sym, refl, ap, ◌∙◌, subst, arith, length-append, eqb-true}
use Rattle.format.specs.Bytes.{Bytes, ok, up_to, is_eol, is_white, is_regular, same}
use Rattle.format.specs.Space.{skip}
use Rattle.format.specs.Tokens.{name, Token, tok, start_at, token_at}
use Rattle.format.specs.Objects.{Obj, Entries, no_entries, more_entries, object_by, entries, holds}
use Rattle.locality.specs.Locality.{Good, stops}
use Rattle.locality.specs.LocalityObjects.{After}
use Rattle.locality.specs.LocalityTrailers.{FitEntries, entry_count}
use Rattle.locality.proofs.Cases.{cases}
use Rattle.locality.proofs.Local.{never, up_to_taken}
use Rattle.locality.proofs.Held.{Held, Front, front_of, after_none, some_pre}
use Rattle.locality.proofs.Dictionaries.{behind_key, key_bytes_at, value_bytes_at, Turn, ends, goes, turn}
use Rattle.locality.proofs.Objects.{object_local}
use Rattle.locality.proofs.Places.{reached, object_counts}
use Rattle.locality.proofs.Spaces.{Tight, tight_stays, skip_tight, Bare, start_bare}
use Rattle.locality.proofs.Tests.{clash, or_none}

-- a name's own bytes
record Key (d : Bytes) (kb : Bytes) : Type 0 where
  names : (p : ℕ) (ys : Bytes) → stops is_regular ys ≡ true → token_at p (kb ++ ys) ≡ tok (name d) p (kb ++ ys) (p + length kb) ys

key_fits : (p : ℕ) (xs d : Bytes) → (token_at p xs).kind ≡ name d → Key d (key_bytes_at p xs)
unfolding token_at Good
key_fits p xs d k = go (start_bare s.0 s.1 (subst Good (sym k) tt))
  where
    s : ℕ × Bytes
    s = skip false p xs

    go : Bare (skip false p xs).1 (start_at (skip false p xs).0 (skip false p xs).1) → Key d (key_bytes_at p xs)
    go b = subst (Key d) (sym own) (record { names = λ p' ys f. rw (tight_stays p' b.first (b.others ++ ys) tight) (b.again p' ys (λ _. f) ∙ (λ i. tok (k i) p' ((b.first ∷ b.others) ++ ys) (p' + length (b.first ∷ b.others)) ys)) })
      where
        tight : Tight b.first
        tight = skip_tight false p xs b.first (b.others ++ (start_at (skip false p xs).0 (skip false p xs).1).rest) b.parts

        own : key_bytes_at p xs ≡ b.first ∷ b.others
        own = ap (λ (u : Token). up_to u.from u.bytes u.to) b.is ∙ up_to_taken b.from (b.from + length (b.first ∷ b.others)) (b.first ∷ b.others) (start_at (skip false p xs).0 (skip false p xs).1).rest refl

-- a value's own bytes
record Value (o : Obj) (vb : Bytes) : Type 0 where
  stands : (p : ℕ) (ys : Bytes) → skip false p (vb ++ ys) ≡ (p, vb ++ ys)
  reads : (p : ℕ) (ys : Bytes) → After o (10 ∷ ys) → object_by 31 p (vb ++ (10 ∷ ys)) ≡ ok o (p + length vb) (10 ∷ ys)

value_fits : (p : ℕ) (xs : Bytes) (o : Obj) (q : ℕ) (ys : Bytes) → object_by 31 (skip false p xs).0 (skip false p xs).1 ≡ ok o q ys → Value o (up_to (skip false p xs).0 (skip false p xs).1 q)
value_fits p xs o q ys e = go (object_local 31 (skip false p xs).0 (skip false p xs).1 o q ys e)
  where
    go : Held (object_by 31) (skip false p xs).1 o ys → Value o (up_to (skip false p xs).0 (skip false p xs).1 q)
    go h = go₂ (some_pre h.loc.pre h.kind h.good (h.front 0 [] (after_none o)))
      where
        own : up_to (skip false p xs).0 (skip false p xs).1 q ≡ h.loc.pre
        own = ap (λ zs. up_to (skip false p xs).0 zs q) h.loc.parts
            ∙ up_to_taken (skip false p xs).0 q h.loc.pre ys (reached (skip false p xs).0 (skip false p xs).1 q h.loc.pre ys h.loc.parts (object_counts 31 (skip false p xs).0 (skip false p xs).1 o q ys e))

        go₂ : (x : ℕ) × (pre' : Bytes) × (h.loc.pre ≡ x ∷ pre') → Value o (up_to (skip false p xs).0 (skip false p xs).1 q)
        go₂ s = subst (Value o) (sym own) (record {
          stands = λ p' zs. subst (λ us. skip false p' (us ++ zs) ≡ (p', us ++ zs)) (sym s.2) (tight_stays p' s.0 (s.1 ++ zs) (skip_tight false p xs s.0 (s.1 ++ ys) (h.loc.parts ∙ ap (λ us. us ++ ys) s.2)));
          reads = λ p' zs a. h.loc.again p' (10 ∷ zs) a;
        })

-- none of the keys is among those seen
abbrev pub Fresh : Entries → Entries → Type 0
Fresh seen no_entries = Unit {0}
Fresh seen (more_entries k kb vb o es) = (holds k seen ≡ false) × Fresh seen es

-- whether bytes are the same, either way round
pub same_sym : (xs ys : Bytes) → same xs ys ≡ same ys xs
unfolding same
same_sym [] [] = refl
same_sym [] (y ∷ ys) = refl
same_sym (x ∷ xs) [] = refl
same_sym (x ∷ xs) (y ∷ ys) = cases (eqb x y)
    (λ a. let b : eqb y x ≡ true = flip x y a in rw (a, b) (same_sym xs ys))
    (λ a. let b : eqb y x ≡ false = flop x y a in rw (a, b) refl)
  where
    flip : (m n : ℕ) → eqb m n ≡ true → eqb n m ≡ true
    flip m n e = let q : m ≡ n = eqb-true m n e in subst (λ k. eqb k m ≡ true) q (subst (λ k. eqb m k ≡ true) (sym q) e)

    flop : (m n : ℕ) → eqb m n ≡ false → eqb n m ≡ false
    flop m n e = cases (eqb n m) (λ f. clash (let g : eqb m n ≡ true = flip n m f in cc)) (λ f. f)

-- a key in front of those seen
pub fresh_more : (seen es : Entries) (k kb vb : Bytes) (o : Obj) → holds k es ≡ false → Fresh seen es → Fresh (more_entries k kb vb o seen) es
unfolding holds
fresh_more seen no_entries k kb vb o h f = tt
fresh_more seen (more_entries j jb wb u es) k kb vb o h f =
    let a = or_none (same k j) (holds k es) h in
    let b : same j k ≡ false = same_sym j k ∙ a.0 in
    (rw b f.0, fresh_more seen es k kb vb o a.1 f.1)

fresh_less : (seen es : Entries) (k kb vb : Bytes) (o : Obj) → Fresh (more_entries k kb vb o seen) es → (holds k es ≡ false) × Fresh seen es
unfolding holds
fresh_less seen no_entries k kb vb o f = (refl, tt)
fresh_less seen (more_entries j jb wb u es) k kb vb o f =
    let a = or_none (same j k) (holds j seen) f.0 in
    let r = fresh_less seen es k kb vb o f.1 in
    let b : same k j ≡ false = same_sym k j ∙ a.0 in
    (rw b r.0, (a.1, r.1))

skip_short : (c : Bool) (p : ℕ) (xs : Bytes) → length (skip c p xs).1 ≤ length xs
unfolding skip
skip_short true p [] = omega arith
skip_short false p [] = omega arith
skip_short true p (x ∷ xs) =
    cases (is_eol x)
    (λ a. rw (a, skip) (let h = skip_short false (suc p) xs in omega arith))
    (λ a. rw (a, skip) (let h = skip_short true (suc p) xs in omega arith))
skip_short false p (x ∷ xs) =
    cases (is_white x)
    (λ a. rw (a, skip) (let h = skip_short false (suc p) xs in omega arith))
    (λ a.
    cases (eqb x 37)
    (λ b. rw (a, b, skip) (let h = skip_short true (suc p) xs in omega arith))
    (λ b. rw (a, b, skip) (omega arith)))

-- a token takes bytes
token_short : (p : ℕ) (xs : Bytes) → Good (token_at p xs).kind → suc (length (token_at p xs).rest) ≤ length xs
unfolding stops
token_short p xs g = go (front_of p xs g)
  where
    go : Front xs (token_at p xs) → suc (length (token_at p xs).rest) ≤ length xs
    go l =
        let s = some_pre l.pre (token_at p xs).kind g (ap (λ (u : Token). u.kind) (l.again 0 [] (λ _. refl))) in
        let a : length xs ≡ length l.pre + length (token_at p xs).rest = ap length l.parts ∙ length-append l.pre (token_at p xs).rest in
        let b : length l.pre ≡ suc (length s.1) = ap length s.2 in
        omega arith

object_short : (p : ℕ) (xs : Bytes) (o : Obj) (q : ℕ) (rest : Bytes) → object_by 31 p xs ≡ ok o q rest → length rest ≤ length xs
object_short p xs o q rest e = go (object_local 31 p xs o q rest e)
  where
    go : Held (object_by 31) xs o rest → length rest ≤ length xs
    go h = let a : length xs ≡ length h.loc.pre + length rest = ap length h.loc.parts ∙ length-append h.loc.pre rest in omega arith

record Fit (seen : Entries) (xs : Bytes) (es : Entries) (rest : Bytes) : Type 0 where
  fits : FitEntries es
  fresh : Fresh seen es
  few : entry_count es + length rest ≤ length xs

fit_by : (n : ℕ) (seen : Entries) (p : ℕ) (xs : Bytes) (es : Entries) (q : ℕ) (rest : Bytes) → entries (object_by 31) n seen p xs ≡ ok es q rest → Fit seen xs es rest
unfolding entries entry_count Good
fit_by zero seen p xs es q rest e = never e
fit_by (suc n) seen p xs es q rest e = go (turn (object_by 31) n seen p xs es q rest e) (λ seen' p' ys fs q' m. fit_by n seen' p' ys fs q' rest m)
  where
    go : Turn (object_by 31) n seen p xs es q rest → ((seen' : Entries) (p' : ℕ) (ys : Bytes) (fs : Entries) (q' : ℕ) → entries (object_by 31) n seen' p' ys ≡ ok fs q' rest → Fit seen' ys fs rest) → Fit seen xs es rest
    go (ends k s t r) more =
        subst (λ fs. Fit seen xs fs rest) s
        (record { fits = tt; fresh = tt; few = (let a = token_short p xs (subst Good (sym k) tt) in let b : length (token_at p xs).rest ≡ length rest = ap length r in omega arith) })
    go (goes d o q₁ ys fs k h v m s) more =
        subst (λ gs. Fit seen xs gs rest) s
        (put (key_fits p xs d k) (value_fits (token_at p xs).to (token_at p xs).rest o q₁ ys v) (more (more_entries d (key_bytes_at p xs) (value_bytes_at p xs q₁) o seen) q₁ ys fs q m))
      where
        put : Key d (key_bytes_at p xs) → Value o (value_bytes_at p xs q₁) → Fit (more_entries d (key_bytes_at p xs) (value_bytes_at p xs q₁) o seen) ys fs rest → Fit seen xs (more_entries d (key_bytes_at p xs) (value_bytes_at p xs q₁) o fs) rest
        put a b f =
            let r = fresh_less seen fs d (key_bytes_at p xs) (value_bytes_at p xs q₁) o f.fresh in
            record {
              fits = (record { names = a.names; stands = b.stands; reads = b.reads }, r.0, f.fits);
              fresh = (h, r.1);
              few =
                  let i = token_short p xs (subst Good (sym k) tt) in
                  let j = skip_short false (token_at p xs).to (token_at p xs).rest in
                  let l = object_short (behind_key p xs).0 (behind_key p xs).1 o q₁ ys v in
                  omega (arith, f.few);
            }

-- entries that were read in a dictionary can be written again, and are no more than the bytes that were read
pub entries_fit : (n p : ℕ) (xs : Bytes) (es : Entries) (q : ℕ) (rest : Bytes) → entries (object_by 31) n no_entries p xs ≡ ok es q rest → FitEntries es × (entry_count es ≤ length xs)
entries_fit n p xs es q rest e = go (fit_by n no_entries p xs es q rest e)
  where
    go : Fit no_entries xs es rest → FitEntries es × (entry_count es ≤ length xs)
    go f = (f.fits, omega (arith, f.few))
