-- The entries of a dictionary decide themselves.
use Rattle.std.proofs.Common.{◌≡◌, ℕ, zero, suc, ◌+◌, true, false, [], ◌∷◌, ◌++◌, length, None, sym, refl, ap, ◌∙◌, subst, append_assoc, arith, length-append}
use Rattle.faults.specs.declared.fault.Fault.{Fault}
use Rattle.format.specs.Bytes.{Bytes, ok, then, up_to, is_regular}
use Rattle.format.specs.Space.{skip}
use Rattle.format.specs.Tokens.{open_array, close_array, open_dict, close_dict, Kind, int, real, name, text, hex, mark, word, ended, flawed, Token, tok, token_at}
use Rattle.format.specs.Objects.{Obj, Entries, no_entries, more_entries, Reader, plain_int, plain_word, is_word, entries, More, valued, keyed, entry_at, holds, Next, closes, key, fails, next}
use Rattle.locality.specs.Locality.{Good, is_run, stops}
use Rattle.locality.specs.LocalityObjects.{R, After}
use Rattle.locality.proofs.Cases.{cases}
use Rattle.locality.proofs.Local.{Local, Any, never, same_rest, same_value, same_place, then_ok, up_to_taken}
use Rattle.locality.proofs.Tokens.{token_stops, Gap, skip_local}
use Rattle.locality.proofs.Held.{Held, Holds, Inside, first_by, mark_good, no_ref_unless_int, Front, front_of, after_none, some_pre, stops_front, after_inside}
use Rattle.locality.proofs.Tests.{clash, not_no}

-- by what a dictionary has next
pub cases_next : {P : Type 0} (z : Next) → (z ≡ closes → P) → ((d : Bytes) → z ≡ key d → P) → ((f : Fault) → z ≡ fails f → P) → P
cases_next closes a b c = a refl
cases_next (key d) a b c = b d refl
cases_next (fails f) a b c = c f refl

-- what closes a dictionary is its mark
pub next_closes : (p : ℕ) (k : Kind) → next p k ≡ closes → k ≡ mark close_dict
unfolding next
next_closes p (mark close_dict) e = refl
next_closes p (mark open_dict) e = clash (cc)
next_closes p (mark open_array) e = clash (cc)
next_closes p (mark close_array) e = clash (cc)
next_closes p (name d) e = clash (cc)
next_closes p (word w) e = clash (cc)
next_closes p (int b z) e = clash (cc)
next_closes p (real w) e = clash (cc)
next_closes p (text w) e = clash (cc)
next_closes p (hex w) e = clash (cc)
next_closes p ended e = clash (cc)
next_closes p (flawed f) e = clash (cc)

-- a key is a name
pub next_key : (p : ℕ) (k : Kind) (d : Bytes) → next p k ≡ key d → k ≡ name d
unfolding next
next_key p (name c) d e = let q : c ≡ d = cc in ap name q
next_key p (mark close_dict) d e = clash (cc)
next_key p (mark open_dict) d e = clash (cc)
next_key p (mark open_array) d e = clash (cc)
next_key p (mark close_array) d e = clash (cc)
next_key p (word w) d e = clash (cc)
next_key p (int b z) d e = clash (cc)
next_key p (real w) d e = clash (cc)
next_key p (text w) d e = clash (cc)
next_key p (hex w) d e = clash (cc)
next_key p ended d e = clash (cc)
next_key p (flawed f) d e = clash (cc)

next_close : (p : ℕ) (k : Kind) → k ≡ mark close_dict → next p k ≡ closes
unfolding next
next_close p k e = rw e refl

-- the bytes of the key that stands next
abbrev pub key_bytes_at : ℕ → Bytes → Bytes
key_bytes_at p xs = up_to (token_at p xs).from (token_at p xs).bytes (token_at p xs).to

-- the place and the bytes behind that key and white space
abbrev pub behind_key : ℕ → Bytes → (ℕ × Bytes)
behind_key p xs = skip false (token_at p xs).to (token_at p xs).rest

-- the bytes of the value behind that key, up to the place q
abbrev pub value_bytes_at : ℕ → Bytes → ℕ → Bytes
value_bytes_at p xs q = up_to (behind_key p xs).0 (behind_key p xs).1 q

-- one turn of reading entries: the end, or an entry and the entries behind it
pub data Turn (elem : Reader) (n : ℕ) (seen : Entries) (p : ℕ) (xs : Bytes) (es : Entries) (q : ℕ) (rest : Bytes) : Type 0 where
  ends : (token_at p xs).kind ≡ mark close_dict → no_entries ≡ es → (token_at p xs).to ≡ q → (token_at p xs).rest ≡ rest → Turn elem n seen p xs es q rest
  goes : (d : Bytes) (o : Obj) (q₁ : ℕ) (ys : Bytes) (fs : Entries) → (token_at p xs).kind ≡ name d → holds d seen ≡ false →
      elem (behind_key p xs).0 (behind_key p xs).1 ≡ ok o q₁ ys →
      entries elem n (more_entries d (key_bytes_at p xs) (value_bytes_at p xs q₁) o seen) q₁ ys ≡ ok fs q rest →
      more_entries d (key_bytes_at p xs) (value_bytes_at p xs q₁) o fs ≡ es → Turn elem n seen p xs es q rest

-- what was read in one turn
pub turn : (elem : Reader) (n : ℕ) (seen : Entries) (p : ℕ) (xs : Bytes) (es : Entries) (q : ℕ) (rest : Bytes) → entries elem (suc n) seen p xs ≡ ok es q rest → Turn elem n seen p xs es q rest
unfolding entries entry_at keyed valued
turn elem n seen p xs es q rest e =
    cases_next (next (token_at p xs).from (token_at p xs).kind)
    (λ b. let h : ok no_entries (token_at p xs).to (token_at p xs).rest ≡ ok es q rest = rw (b, entry_at) at e in
    ends (next_closes (token_at p xs).from (token_at p xs).kind b) (same_value h) (same_place h) (same_rest h))
    (λ d b.
    cases (holds d seen)
    (λ c. never (rw (b, c, entry_at, keyed) at e))
    (λ c.
    let s : ℕ × Bytes = behind_key p xs in
    let kb : Bytes = key_bytes_at p xs in
    let u = then_ok (elem s.0 s.1) (λ o r ys. then (entries elem n (more_entries d kb (up_to s.0 s.1 r) o seen) r ys) (λ es' r' zs. ok (more_entries d kb (up_to s.0 s.1 r) o es') r' zs)) es q rest (rw (b, c, entry_at, keyed) at e) in
    let v = then_ok (entries elem n (more_entries d kb (up_to s.0 s.1 u.1) u.0 seen) u.1 u.2) (λ es' r' zs. ok (more_entries d kb (up_to s.0 s.1 u.1) u.0 es') r' zs) es q rest u.4 in
    goes d u.0 u.1 u.2 v.0 (next_key (token_at p xs).from (token_at p xs).kind d b) c u.3
    (v.3 ∙ (let m : v.1 ≡ q = same_place v.4 in let r : v.2 ≡ rest = same_rest v.4 in λ i. ok v.0 (m i) (r i))) (same_value v.4)))
    (λ f b. never (rw (b, entry_at) at e))

entries_end : (elem : Reader) (n : ℕ) (seen : Entries) (p : ℕ) (xs : Bytes) → (token_at p xs).kind ≡ mark close_dict → Inside (entries elem (suc n) seen) xs no_entries (token_at p xs).rest
unfolding entries entry_at
entries_end elem n seen p xs k = go (mark_good (token_at p xs).kind close_dict k)
  where
    go : (Good (token_at p xs).kind) × (is_run (token_at p xs).kind ≡ false) × (is_word R (token_at p xs).kind ≡ false) × (plain_int (token_at p xs).kind ≡ None) → Inside (entries elem (suc n) seen) xs no_entries (token_at p xs).rest
    go g = go₂ (front_of p xs g.0)
      where
        go₂ : Front xs (token_at p xs) → Inside (entries elem (suc n) seen) xs no_entries (token_at p xs).rest
        go₂ l = record {
          loc = record {
            pre = l.pre;
            parts = l.parts;
            again = λ p' ys _. rw (at p' ys, entries) (rw (next_close (l.from p') (token_at p xs).kind k, entry_at) refl);
          };
          not_r = λ p' ys. rw (at p' ys) g.2;
          no_ref = λ m p' ys. no_ref_unless_int m (token_at p' (l.pre ++ ys)) (rw (at p' ys) g.3);
          first = first_by l.pre (token_at p xs).kind g.0 (ap (λ (u : Token). u.kind) (at 0 []));
        }
          where
            at : (p' : ℕ) (ys : Bytes) → token_at p' (l.pre ++ ys) ≡ tok (token_at p xs).kind (l.from p') (l.bytes ys) (p' + length l.pre) ys
            at p' ys = l.again p' ys (not_no (is_run (token_at p xs).kind) g.1)

record Valued (elem : Reader) (more : More) (seen : Entries) (d kb : Bytes) (xs : Bytes) (es : Entries) (rest : Bytes) : Type 0 where
  loc : Local (λ p' zs. valued elem more seen d kb (skip false p' zs)) Any xs es rest
  first : (us vs : Bytes) → stops is_regular (loc.pre ++ us) ≡ stops is_regular (loc.pre ++ vs)

-- a value behind white space, as it stands behind a key
valued_local : (elem : Reader) (more : More) (seen : Entries) (d kb : Bytes) (p : ℕ) (xs : Bytes) (o : Obj) (es : Entries) (ys rest : Bytes) →
    (h : Held elem (skip false p xs).1 o ys) → Inside (more (more_entries d kb h.loc.pre o seen)) ys es rest →
    Valued elem more seen d kb xs (more_entries d kb h.loc.pre o es) rest
unfolding valued
valued_local elem more seen d kb p xs o es ys rest h i = go (some_pre h.loc.pre h.kind h.good (h.front 0 [] (after_none o)))
  where
    go : (x : ℕ) × (pre' : Bytes) × (h.loc.pre ≡ x ∷ pre') → Valued elem more seen d kb xs (more_entries d kb h.loc.pre o es) rest
    go s = go₂ (skip_local false p xs s.0 (s.1 ++ ys) (h.loc.parts ∙ ap (λ zs. zs ++ ys) s.2))
      where
        go₂ : Gap false xs s.0 (s.1 ++ ys) → Valued elem more seen d kb xs (more_entries d kb h.loc.pre o es) rest
        go₂ w = record {
          loc = record {
            pre = w.pre ++ (h.loc.pre ++ i.loc.pre);
            parts = w.parts ∙ ap (λ zs. w.pre ++ zs) (ap (λ zs. zs ++ ys) (sym s.2) ∙ ap (λ zs. h.loc.pre ++ zs) i.loc.parts) ∙ sym (regroup rest);
            again = λ p' zs _. rw (regroup zs) (rw (skipped p' zs) (
                rw (h.loc.again (p' + length w.pre) (i.loc.pre ++ zs) (after_inside (more (more_entries d kb h.loc.pre o seen)) elem (skip false p xs).1 o ys es rest h i zs))
                (rw (up_to_taken (p' + length w.pre) (p' + length w.pre + length h.loc.pre) h.loc.pre (i.loc.pre ++ zs) refl)
                (rw (i.loc.again (p' + length w.pre + length h.loc.pre) zs tt)
                (let v : p' + length w.pre + length h.loc.pre + length i.loc.pre ≡ p' + length (w.pre ++ (h.loc.pre ++ i.loc.pre)) = simp length-append (omega arith) in
                λ j. ok (more_entries d kb h.loc.pre o es) (v j) zs)))));
          };
          first = λ us vs. rw (regroup us, regroup vs) (rw s.2 (stops_front is_regular w.pre s.0 (s.1 ++ (i.loc.pre ++ us)) (s.1 ++ (i.loc.pre ++ vs))));
        }
          where
            regroup : (zs : Bytes) → (w.pre ++ (h.loc.pre ++ i.loc.pre)) ++ zs ≡ w.pre ++ (h.loc.pre ++ (i.loc.pre ++ zs))
            regroup zs = simp append_assoc

            skipped : (p' : ℕ) (zs : Bytes) → skip false p' (w.pre ++ (h.loc.pre ++ (i.loc.pre ++ zs))) ≡ (p' + length w.pre, h.loc.pre ++ (i.loc.pre ++ zs))
            skipped p' zs = rw s.2 (w.again p' (s.1 ++ (i.loc.pre ++ zs)))

next_name : (p : ℕ) (k : Kind) (d : Bytes) → k ≡ name d → next p k ≡ key d
unfolding next
next_name p k d e = rw e refl

entries_more : (elem : Reader) (n : ℕ) (seen : Entries) (p : ℕ) (xs d : Bytes) → (token_at p xs).kind ≡ name d → holds d seen ≡ false → (l : Front xs (token_at p xs)) (es : Entries) (rest : Bytes) →
    Valued elem (entries elem n) seen d l.own (token_at p xs).rest es rest → Inside (entries elem (suc n) seen) xs es rest
unfolding entries entry_at keyed Good is_word plain_word plain_int is_run
entries_more elem n seen p xs d kd hs l es rest v = record {
  loc = record {
    pre = l.pre ++ v.loc.pre;
    parts = l.parts ∙ ap (λ zs. l.pre ++ zs) v.loc.parts ∙ sym (append_assoc l.pre v.loc.pre rest);
    again = λ p' zs _. rw append_assoc
        (rw (at p' zs, entries)
        (rw (next_name (l.from p') (token_at p xs).kind d kd, entry_at)
        (rw (hs, keyed)
        (rw (l.owned p' (v.loc.pre ++ zs))
        (v.loc.again (p' + length l.pre) zs tt
        ∙ (let q : p' + length l.pre + length v.loc.pre ≡ p' + length (l.pre ++ v.loc.pre) = rw length-append (omega arith) in λ i. ok es (q i) zs))))));
  };
  not_r = λ p' zs. rw append_assoc (rw (at p' zs) (ap (is_word R) kd));
  no_ref = λ m p' zs. rw append_assoc (no_ref_unless_int m (token_at p' (l.pre ++ (v.loc.pre ++ zs))) (rw (at p' zs) (ap plain_int kd)));
  first = λ us vs. rw (append_assoc l.pre v.loc.pre us, append_assoc l.pre v.loc.pre vs)
      (first_by l.pre (token_at p xs).kind (subst Good (sym kd) tt) (ap (λ (u : Token). u.kind) (l.again 0 [] (λ _. stops_None))) (v.loc.pre ++ us) (v.loc.pre ++ vs));
}
  where
    stops_None : stops is_regular [] ≡ true
    stops_None = unfold stops in refl

    at : (p' : ℕ) (zs : Bytes) → token_at p' (l.pre ++ (v.loc.pre ++ zs)) ≡ tok (token_at p xs).kind (l.from p') (l.bytes (v.loc.pre ++ zs)) (p' + length l.pre) (v.loc.pre ++ zs)
    at p' zs = l.again p' (v.loc.pre ++ zs) (λ i. v.first zs rest ∙ subst (λ us. stops is_regular us ≡ true) v.loc.parts (token_stops p xs i))

-- where an object was read, its bytes are those that Held has
own_bytes : (elem : Reader) (p : ℕ) (xs : Bytes) (o : Obj) (q : ℕ) (ys : Bytes) → elem p xs ≡ ok o q ys → (h : Held elem xs o ys) → After o ys → up_to p xs q ≡ h.loc.pre
own_bytes elem p xs o q ys e h a =
    let f : elem p xs ≡ ok o (p + length h.loc.pre) ys = ap (elem p) h.loc.parts ∙ h.loc.again p ys a in
    let r : q ≡ p + length h.loc.pre = same_place (sym e ∙ f) in
    ap (λ zs. up_to p zs q) h.loc.parts ∙ up_to_taken p q h.loc.pre ys r

entries_key : (elem : Reader) → Holds elem → (n : ℕ) (seen : Entries) (p : ℕ) (xs d : Bytes) (o : Obj) (q₁ : ℕ) (ys : Bytes) (es : Entries) (rest : Bytes) →
    (token_at p xs).kind ≡ name d → holds d seen ≡ false →
    elem (behind_key p xs).0 (behind_key p xs).1 ≡ ok o q₁ ys → (kb vb : Bytes) → kb ≡ key_bytes_at p xs → vb ≡ value_bytes_at p xs q₁ →
    Inside (entries elem n (more_entries d kb vb o seen)) ys es rest → Inside (entries elem (suc n) seen) xs (more_entries d kb vb o es) rest
unfolding Good
entries_key elem hold n seen p xs d o q₁ ys es rest kd hs e kb vb ke ve i =
    go (front_of p xs (subst Good (sym kd) tt)) (hold (behind_key p xs).0 (behind_key p xs).1 o q₁ ys e)
  where
    s : ℕ × Bytes
    s = behind_key p xs

    go : Front xs (token_at p xs) → Held elem s.1 o ys → Inside (entries elem (suc n) seen) xs (more_entries d kb vb o es) rest
    go l h =
        let a : After o ys = subst (After o) (sym i.loc.parts) (after_inside (entries elem n (more_entries d kb vb o seen)) elem s.1 o ys es rest h i rest) in
        let v : vb ≡ h.loc.pre = ve ∙ own_bytes elem s.0 s.1 o q₁ ys e h a in
        let k : kb ≡ l.own = ke ∙ l.was in
        let i' : Inside (entries elem n (more_entries d l.own h.loc.pre o seen)) ys es rest = subst (λ b. Inside (entries elem n (more_entries d l.own b o seen)) ys es rest) v (subst (λ b. Inside (entries elem n (more_entries d b vb o seen)) ys es rest) k i) in
        let r = entries_more elem n seen p xs d kd hs l (more_entries d l.own h.loc.pre o es) rest (valued_local elem (entries elem n) seen d l.own (token_at p xs).to (token_at p xs).rest o es ys rest h i') in
        subst (λ b. Inside (entries elem (suc n) seen) xs (more_entries d kb b o es) rest) (sym v) (subst (λ b. Inside (entries elem (suc n) seen) xs (more_entries d b h.loc.pre o es) rest) (sym k) r)

-- the entries of a dictionary decide themselves
pub entries_local : (elem : Reader) → Holds elem → (n : ℕ) (seen : Entries) (p : ℕ) (xs : Bytes) (es : Entries) (q : ℕ) (rest : Bytes) → entries elem n seen p xs ≡ ok es q rest → Inside (entries elem n seen) xs es rest
unfolding entries
entries_local elem hold zero seen p xs es q rest e = never e
entries_local elem hold (suc n) seen p xs es q rest e = go (turn elem n seen p xs es q rest e) (λ seen' p' ys fs q' m. entries_local elem hold n seen' p' ys fs q' rest m)
  where
    go : Turn elem n seen p xs es q rest → ((seen' : Entries) (p' : ℕ) (ys : Bytes) (fs : Entries) (q' : ℕ) → entries elem n seen' p' ys ≡ ok fs q' rest → Inside (entries elem n seen') ys fs rest) → Inside (entries elem (suc n) seen) xs es rest
    go (ends k s t r) more =
        subst (λ zs. Inside (entries elem (suc n) seen) xs es zs) r (subst (λ fs. Inside (entries elem (suc n) seen) xs fs (token_at p xs).rest) s (entries_end elem n seen p xs k))
    go (goes d o q₁ ys fs k h v m s) more =
        subst (λ gs. Inside (entries elem (suc n) seen) xs gs rest) s
        (entries_key elem hold n seen p xs d o q₁ ys fs rest k h v (key_bytes_at p xs) (value_bytes_at p xs q₁) refl refl (more (more_entries d (key_bytes_at p xs) (value_bytes_at p xs q₁) o seen) q₁ ys fs q m))
