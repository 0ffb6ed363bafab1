-- A stream, and a body that is an object or a stream, decide themselves.
use Rattle.std.proofs.Common.{◌≡◌, ℕ, suc, ◌+◌, ◌≤◌, Bool, true, false, eqb, leb, [], ◌∷◌, ◌++◌, length, take, drop, Some, None, codes, Option, sym, refl, ap, ◌∙◌, subst, append_assoc, arith, length-append, take-append-drop, length-take-le, eqb-true, le-leb, leb-true}
use lib.Seq.{drop-append_seam}
use Rattle.format.specs.Bytes.{Bytes, Got, ok, then, is_regular}
use Rattle.format.specs.Space.{eol_at, after_cr}
use Rattle.format.specs.Tokens.{Token, tok, token_at}
use Rattle.format.specs.Objects.{Obj, null, boolean, integer, decimal, literal, hexadecimal, named, array, dict, ref, Entries, is_word, object, object_by}
use Rattle.format.specs.Frames.{entries_of, length_here, stream_line, maybe_eol, behind, word_ends, end_stream, stream_data, stream_rest, streamed, body_at}
use Rattle.locality.specs.Locality.{stops}
use Rattle.locality.specs.LocalityObjects.{ends_run, is_number, After}
use Rattle.locality.specs.LocalityFrames.{Follows}
use Rattle.locality.proofs.Cases.{cases, cases_o}
use Rattle.locality.proofs.Local.{Local, Any, never, same_rest, same_value, same_place, then_ok, then_local, last}
use Rattle.locality.proofs.Tokens.{token_stops}
use Rattle.locality.proofs.Held.{Held, Front, front_of, after_none, some_pre}
use Rattle.locality.proofs.Objects.{object_local, word_good}
use Rattle.locality.proofs.Places.{Reaches, Counts, reach_as, token_reaches, object_counts}
use Rattle.locality.proofs.Tests.{clash}

abbrev Edge : Bytes → Type 0
Edge ys = stops is_regular ys ≡ true

-- LF or CR LF behind `stream`
line_local : (p : ℕ) (xs : Bytes) (u : Unit) (q : ℕ) (rest : Bytes) → stream_line p xs ≡ ok u q rest → Local stream_line Any xs tt rest
unfolding stream_line
line_local p [] u q rest e = never e
line_local p (x ∷ xs) u q rest e =
    cases (eqb x 10)
    (λ a. last x (λ p' ys. rw (a, stream_line) refl) (same_rest (rw (a, stream_line) at e)))
    (λ a. cases (eqb x 13) (λ b. cr xs a b e) (λ b. never (rw (a, b, stream_line) at e)))
  where
    cr : (zs : Bytes) → eqb x 10 ≡ false → eqb x 13 ≡ true → stream_line p (x ∷ zs) ≡ ok u q rest → Local stream_line Any (x ∷ zs) tt rest
    cr [] a b h = never (rw (a, b, stream_line) at h)
    cr (y ∷ zs) a b h =
        cases (eqb y 10)
        (λ c. record {
          pre = x ∷ y ∷ [];
          parts = ap {B = Bytes} (λ ys. x ∷ y ∷ ys) (same_rest (rw (a, b, c, stream_line) at h));
          again = λ p' ys _. rw (a, b, c, stream_line) (let v : suc (suc p') ≡ p' + 2 = omega arith in λ i. ok tt (v i) ys);
        })
        (λ c. never (rw (a, b, c, stream_line) at h))

-- an optional end of line before the byte `e`
record Break (xs us : Bytes) : Type 0 where
  eol : Bytes
  parts : xs ≡ eol ++ (101 ∷ us)
  again : (p : ℕ) (vs : Bytes) → maybe_eol p (eol ++ (101 ∷ vs)) (eol_at p (eol ++ (101 ∷ vs))) ≡ (p + length eol, 101 ∷ vs)

break_local : (p : ℕ) (xs us : Bytes) → (maybe_eol p xs (eol_at p xs)).1 ≡ 101 ∷ us → Break xs us
unfolding maybe_eol eol_at after_cr
break_local p [] us e = clash (cc)
break_local p (x ∷ xs) us e =
    cases (eqb x 10)
    (λ a.
    let h : xs ≡ 101 ∷ us = rw (a, eol_at, maybe_eol) at e in
    record {
      eol = x ∷ [];
      parts = ap {B = Bytes} (λ ys. x ∷ ys) h;
      again = λ p' vs. rw (a, eol_at, maybe_eol) (let v : suc p' ≡ p' + 1 = omega arith in λ i. (v i, 101 ∷ vs));
    })
    (λ a.
    cases (eqb x 13)
    (λ b. cr xs a b e)
    (λ b.
    let h : x ∷ xs ≡ 101 ∷ us = rw (a, b, eol_at, maybe_eol) at e in
    record { eol = []; parts = h; again = λ p' vs. let v : p' ≡ p' + 0 = omega arith in λ i. (v i, 101 ∷ vs) }))
  where
    cr : (zs : Bytes) → eqb x 10 ≡ false → eqb x 13 ≡ true → (maybe_eol p (x ∷ zs) (eol_at p (x ∷ zs))).1 ≡ 101 ∷ us → Break (x ∷ zs) us
    cr [] a b h = let k : [] ≡ 101 ∷ us = rw (a, b, eol_at, maybe_eol) at h in clash (cc)
    cr (y ∷ zs) a b h =
        cases (eqb y 10)
        (λ c.
        let k : zs ≡ 101 ∷ us = rw (a, b, c, eol_at, after_cr, maybe_eol) at h in
        record {
          eol = x ∷ y ∷ [];
          parts = ap {B = Bytes} (λ ys. x ∷ y ∷ ys) k;
          again = λ p' vs. rw (a, b, c, eol_at, after_cr, maybe_eol) (let v : suc (suc p') ≡ p' + 2 = omega arith in λ i. (v i, 101 ∷ vs));
        })
        (λ c.
        let k : y ∷ zs ≡ 101 ∷ us = rw (a, b, c, eol_at, after_cr, maybe_eol) at h in
        record {
          eol = x ∷ [];
          parts = ap {B = Bytes} (λ ys. x ∷ ys) k;
          again = λ p' vs. rw (a, b, eol_at, after_cr, maybe_eol) (let v : suc p' ≡ p' + 1 = omega arith in λ i. (v i, 101 ∷ vs));
        })

-- the bytes that begin with others are those and the rest
pub behind_parts : (ws xs ys : Bytes) → behind ws xs ≡ Some ys → xs ≡ ws ++ ys
unfolding behind
behind_parts [] xs ys e = cc
behind_parts (w ∷ ws) [] ys e = clash (cc)
behind_parts (w ∷ ws) (x ∷ xs) ys e =
    cases (eqb w x)
    (λ a. let q : w ≡ x = eqb-true w x a in let h = behind_parts ws xs ys (rw (a, behind) at e) in λ i. sym q i ∷ h i)
    (λ a. clash (let z : None ≡ Some ys = rw (a, behind) at e in cc))

-- no regular byte stands next
pub word_ends_fact : (ys : Bytes) → word_ends ys ≡ stops is_regular ys
unfolding word_ends stops
word_ends_fact [] = refl
word_ends_fact (y ∷ ys) = cases (is_regular y) (λ e. rw (e, word_ends) refl) (λ e. rw (e, word_ends) refl)

-- `endstream`, from its first byte on
record Ended (xs rest : Bytes) : Type 0 where
  parts : xs ≡ codes "endstream" ++ rest
  edge : stops is_regular rest ≡ true

end_parts : (p : ℕ) (xs : Bytes) (u : Unit) (q : ℕ) (rest : Bytes) → end_stream p xs ≡ ok u q rest → Ended xs rest
unfolding end_stream
end_parts p xs u q rest e =
    cases_o (behind (codes "endstream") xs)
    (λ a. never (rw (a, end_stream) at e))
    (λ ys a.
    cases (word_ends ys)
    (λ b.
    let r : ys ≡ rest = same_rest (rw (a, b, end_stream) at e) in
    record { parts = behind_parts (codes "endstream") xs ys a ∙ ap (λ zs. codes "endstream" ++ zs) r; edge = ap (stops is_regular) (sym r) ∙ sym (word_ends_fact ys) ∙ b })
    (λ b. never (rw (a, b, end_stream) at e)))

end_again : (p : ℕ) (ys : Bytes) → stops is_regular ys ≡ true → end_stream p (codes "endstream" ++ ys) ≡ ok tt (p + 9) ys
unfolding end_stream behind
end_again p ys h = rw (word_ends_fact ys ∙ h, end_stream) refl

record Data (len : ℕ) (xs rest : Bytes) : Type 0 where
  loc : Local (stream_data len) Edge xs tt rest
  edge : stops is_regular rest ≡ true

-- the data of a stream, an optional end of line, `endstream`
data_local : (len p : ℕ) (xs : Bytes) (u : Unit) (q : ℕ) (rest : Bytes) → stream_data len p xs ≡ ok u q rest → Data len xs rest
unfolding stream_data
data_local len p xs u q rest e =
    cases (leb len (length xs))
    (λ a. go (leb-true len (length xs) a) (end_parts m.0 m.1 u q rest (rw (a, stream_data) at e)))
    (λ a. never (rw (a, stream_data) at e))
  where
    m : ℕ × Bytes
    m = maybe_eol (p + len) (drop len xs) (eol_at (p + len) (drop len xs))

    go : len ≤ length xs → Ended m.1 rest → Data len xs rest
    go h n = go₂ (break_local (p + len) (drop len xs) (codes "ndstream" ++ rest) n.parts)
      where
        go₂ : Break (drop len xs) (codes "ndstream" ++ rest) → Data len xs rest
        go₂ b = record {
          loc = record {
            pre = take len xs ++ (b.eol ++ codes "endstream");
            parts = sym (take-append-drop len xs) ∙ ap (λ zs. take len xs ++ zs) b.parts ∙ sym (regroup rest);
            again = λ p' ys f.
                rw (regroup ys)
                (rw (le-leb len (length (take len xs ++ (b.eol ++ (codes "endstream" ++ ys)))) (long ys), stream_data)
                (rw (dropped (b.eol ++ (codes "endstream" ++ ys)))
                (rw (b.again (p' + len) (codes "ndstream" ++ ys))
                (end_again (p' + len + length b.eol) ys f
                ∙ (let v : p' + len + length b.eol + 9 ≡ p' + length (take len xs ++ (b.eol ++ codes "endstream")) = simp length-append (omega (arith, short)) in λ i. ok tt (v i) ys)))));
          };
          edge = n.edge;
        }
          where
            regroup : (ys : Bytes) → (take len xs ++ (b.eol ++ codes "endstream")) ++ ys ≡ take len xs ++ (b.eol ++ (codes "endstream" ++ ys))
            regroup ys = simp append_assoc

            short : length (take len xs) ≡ len
            short = length-take-le len xs h

            long : (ys : Bytes) → len ≤ length (take len xs ++ (b.eol ++ (codes "endstream" ++ ys)))
            long ys = rw length-append (omega (arith, short))

            dropped : (ws : Bytes) → drop len (take len xs ++ ws) ≡ ws
            dropped ws = subst (λ n. drop n (take len xs ++ ws) ≡ ws) short (drop-append_seam (take len xs) ws)

-- behind the word `stream`, given Length
abbrev inside : ℕ → ℕ → Bytes → Got Unit
inside len p xs = then (stream_line p xs) (λ _ p' ys. stream_data len p' ys)

record Streaming (len : ℕ) (xs rest : Bytes) : Type 0 where
  loc : Local (inside len) Edge xs tt rest
  edge : stops is_regular rest ≡ true
  first : ℕ
  others : Bytes
  some : loc.pre ≡ first ∷ others

inside_some : {B : Type 0} {q : ℕ} {ys : Bytes} (len : ℕ) → inside len 0 [] ≡ ok tt q ys → B
unfolding stream_line
inside_some len e = never e

inside_local : (len p : ℕ) (xs : Bytes) (u : Unit) (q : ℕ) (rest : Bytes) → inside len p xs ≡ ok u q rest → Streaming len xs rest
inside_local len p xs u q rest e =
    let v = then_ok (stream_line p xs) (λ _ p' ys. stream_data len p' ys) u q rest e in
    go v.2 (line_local p xs v.0 v.1 v.2 v.3) (data_local len v.1 v.2 u q rest v.4)
  where
    go : (ys : Bytes) → Local stream_line Any xs tt ys → Data len ys rest → Streaming len xs rest
    go ys l d = whole (then_local stream_line (λ _ p' zs. stream_data len p' zs) Any Edge xs tt ys tt rest l d.loc (λ zs _. tt))
      where
        whole : Local (inside len) Edge xs tt rest → Streaming len xs rest
        whole w = split w.pre refl
          where
            split : (zs : Bytes) → w.pre ≡ zs → Streaming len xs rest
            split [] h = inside_some len (ap (λ ws. inside len 0 (ws ++ [])) (sym h) ∙ w.again 0 [] (unfold stops in refl))
            split (z ∷ zs) h = record { loc = w; edge = d.edge; first = z; others = zs; some = h }

-- a dictionary
dict_of : (o : Obj) (es : Entries) → entries_of o ≡ Some es → o ≡ dict es
unfolding entries_of
dict_of (dict es) fs e = ap dict (cc)
dict_of null es e = clash (cc)
dict_of (boolean b) es e = clash (cc)
dict_of (integer z) es e = clash (cc)
dict_of (decimal w) es e = clash (cc)
dict_of (literal w) es e = clash (cc)
dict_of (hexadecimal w) es e = clash (cc)
dict_of (named d) es e = clash (cc)
dict_of (array os) es e = clash (cc)
dict_of (ref n g) es e = clash (cc)

after_dict : (o : Obj) (es : Entries) (ys : Bytes) → entries_of o ≡ Some es → After o ys
unfolding ends_run is_number
after_dict o es ys e = subst (λ u. After u ys) (sym (dict_of o es e)) (record { run = λ h. clash (cc); alone = λ h. clash (cc) })

-- a body read: what stays so before other bytes
pub record BodyHeld (xs : Bytes) (o : Obj) (rest : Bytes) : Type 0 where
  pub edged : Bool
  pub loc : Local body_at (Follows edged o) xs o rest
  pub had : edged ≡ true → stops is_regular rest ≡ true
  pub first : ℕ
  pub others : Bytes
  pub some : loc.pre ≡ first ∷ others

not_streamed : (o : Obj) (q : ℕ) (ys : Bytes) (m : Option Entries) (t : Token) → is_word (codes "stream") t.kind ≡ false → streamed o q ys m t ≡ ok o q ys
unfolding streamed
not_streamed o q ys None t e = refl
not_streamed o q ys (Some es) t e = rw (e, streamed) refl

body_plain : (xs : Bytes) (o : Obj) (rest : Bytes) → Held (object_by 32) xs o rest → BodyHeld xs o rest
unfolding body_at object
body_plain xs o rest h = go (some_pre h.loc.pre h.kind h.good (h.front 0 [] (after_none o)))
  where
    go : (x : ℕ) × (pre' : Bytes) × (h.loc.pre ≡ x ∷ pre') → BodyHeld xs o rest
    go s = record {
      edged = ends_run o;
      loc = record {
        pre = h.loc.pre;
        parts = h.loc.parts;
        again = λ p ys f. rw (h.loc.again p ys (record { run = f.edge; alone = f.alone })) (not_streamed o (p + length h.loc.pre) ys (entries_of o) (token_at (p + length h.loc.pre) ys) (f.no_stream (p + length h.loc.pre)));
      };
      had = h.had;
      first = s.0;
      others = s.1;
      some = s.2;
    }

stream_again : (o : Obj) (es : Entries) (len q r : ℕ) (ys zs : Bytes) (t : Token) → length_here es ≡ Some len → is_word (codes "stream") t.kind ≡ true →
    inside len t.to t.rest ≡ ok tt r zs → streamed o q ys (Some es) t ≡ ok o r zs
unfolding streamed stream_rest
stream_again o es len q r ys zs t a b e = rw (b, streamed) (rw (a, stream_rest) (rw e refl))

body_stream : (xs : Bytes) (o : Obj) (q : ℕ) (ys rest : Bytes) (es : Entries) (len : ℕ) → Held (object_by 32) xs o ys → entries_of o ≡ Some es → length_here es ≡ Some len →
    is_word (codes "stream") (token_at q ys).kind ≡ true → Front ys (token_at q ys) → Streaming len (token_at q ys).rest rest → BodyHeld xs o rest
unfolding body_at object stops
body_stream xs o q ys rest es len h n k w l m = go (some_pre h.loc.pre h.kind h.good (h.front 0 [] (after_none o)))
  where
    tail : Bytes
    tail = l.pre ++ m.loc.pre

    regroup : (zs : Bytes) → (h.loc.pre ++ (l.pre ++ m.loc.pre)) ++ zs ≡ h.loc.pre ++ (l.pre ++ (m.loc.pre ++ zs))
    regroup zs = simp append_assoc

    real : stops is_regular (m.loc.pre ++ rest) ≡ true
    real = subst (λ zs. stops is_regular zs ≡ true) m.loc.parts (token_stops q ys (word_good (codes "stream") (token_at q ys).kind w).1)

    fits : (zs : Bytes) → stops is_regular (m.loc.pre ++ zs) ≡ true
    fits zs = subst (λ us. stops is_regular (us ++ zs) ≡ true) (sym m.some) (subst (λ us. stops is_regular (us ++ rest) ≡ true) m.some real)

    at : (p : ℕ) (zs : Bytes) → token_at p (l.pre ++ (m.loc.pre ++ zs)) ≡ tok (token_at q ys).kind (l.from p) (l.bytes (m.loc.pre ++ zs)) (p + length l.pre) (m.loc.pre ++ zs)
    at p zs = l.again p (m.loc.pre ++ zs) (λ _. fits zs)

    go : (x : ℕ) × (pre' : Bytes) × (h.loc.pre ≡ x ∷ pre') → BodyHeld xs o rest
    go s = record {
      edged = true;
      loc = record {
        pre = h.loc.pre ++ (l.pre ++ m.loc.pre);
        parts = h.loc.parts ∙ ap (λ zs. h.loc.pre ++ zs) (l.parts ∙ ap (λ zs. l.pre ++ zs) m.loc.parts) ∙ sym (regroup rest);
        again = λ p zs f.
            rw (regroup zs)
            (rw (h.loc.again p (l.pre ++ (m.loc.pre ++ zs)) (after_dict o es (l.pre ++ (m.loc.pre ++ zs)) n))
            (rw n
            (rw (at (p + length h.loc.pre) zs)
            (stream_again o es len (p + length h.loc.pre) (p + length h.loc.pre + length l.pre + length m.loc.pre) (l.pre ++ (m.loc.pre ++ zs)) zs
            (tok (token_at q ys).kind (l.from (p + length h.loc.pre)) (l.bytes (m.loc.pre ++ zs)) (p + length h.loc.pre + length l.pre) (m.loc.pre ++ zs))
            k w (m.loc.again (p + length h.loc.pre + length l.pre) zs (f.edge refl))
            ∙ (let v : p + length h.loc.pre + length l.pre + length m.loc.pre ≡ p + length (h.loc.pre ++ (l.pre ++ m.loc.pre)) = simp length-append (omega arith) in λ i. ok o (v i) zs)))));
      };
      had = λ _. m.edge;
      first = s.0;
      others = s.1 ++ (l.pre ++ m.loc.pre);
      some = ap (λ zs. zs ++ (l.pre ++ m.loc.pre)) s.2;
    }

-- what may stand behind an object: nothing more, or a stream
streamed_held : (xs : Bytes) (o : Obj) (q : ℕ) (ys : Bytes) (o' : Obj) (q' : ℕ) (rest : Bytes) → Held (object_by 32) xs o ys → (m : Option Entries) → entries_of o ≡ m →
    streamed o q ys m (token_at q ys) ≡ ok o' q' rest → BodyHeld xs o' rest
unfolding streamed stream_rest
streamed_held xs o q ys o' q' rest h None n e =
    subst (λ u. BodyHeld xs u rest) (same_value e) (subst (λ zs. BodyHeld xs o zs) (same_rest e) (body_plain xs o ys h))
streamed_held xs o q ys o' q' rest h (Some es) n e =
    cases (is_word (codes "stream") (token_at q ys).kind)
    (λ w.
    cases_o (length_here es)
    (λ k. never (rw (w, k, streamed, stream_rest) at e))
    (λ len k.
    let v = then_ok (inside len (token_at q ys).to (token_at q ys).rest) (λ _ r zs. ok o r zs) o' q' rest (rw (w, k, streamed, stream_rest) at e) in
    subst (λ u. BodyHeld xs u rest) (same_value v.4) (subst (λ zs. BodyHeld xs o zs) (same_rest v.4)
    (body_stream xs o q ys v.2 es len h n k w (front_of q ys (word_good (codes "stream") (token_at q ys).kind w).0) (inside_local len (token_at q ys).to (token_at q ys).rest v.0 v.1 v.2 v.3)))))
    (λ w. let f : ok o q ys ≡ ok o' q' rest = rw (w, streamed) at e in
    subst (λ u. BodyHeld xs u rest) (same_value f) (subst (λ zs. BodyHeld xs o zs) (same_rest f) (body_plain xs o ys h)))

-- a body's own bytes decide it
pub body_local : (p : ℕ) (xs : Bytes) (o : Obj) (q : ℕ) (rest : Bytes) → body_at p xs ≡ ok o q rest → BodyHeld xs o rest
unfolding body_at object
body_local p xs o q rest e =
    let u = then_ok (object_by 32 p xs) (λ o' q' ys. streamed o' q' ys (entries_of o') (token_at q' ys)) o q rest e in
    streamed_held xs u.0 u.1 u.2 o q rest (object_local 32 p xs u.0 u.1 u.2 u.3) (entries_of u.0) refl u.4

inside_reaches : (len p : ℕ) (xs : Bytes) (u : Unit) (q : ℕ) (rest : Bytes) → inside len p xs ≡ ok u q rest → Reaches p xs q rest
inside_reaches len p xs u q rest e = go (inside_local len p xs u q rest e)
  where
    go : Streaming len xs rest → Reaches p xs q rest
    go m =
        let a : inside len p xs ≡ ok tt (p + length m.loc.pre) rest = ap (inside len p) m.loc.parts ∙ m.loc.again p rest m.edge in
        let b : q ≡ p + length m.loc.pre = same_place (sym e ∙ a) in
        let c : length xs ≡ length m.loc.pre + length rest = ap length m.loc.parts ∙ length-append m.loc.pre rest in
        omega arith

streamed_reaches : (o : Obj) (q : ℕ) (ys : Bytes) (m : Option Entries) (o' : Obj) (q' : ℕ) (rest : Bytes) → streamed o q ys m (token_at q ys) ≡ ok o' q' rest → Reaches q ys q' rest
unfolding streamed stream_rest
streamed_reaches o q ys None o' q' rest e = reach_as q ys e refl
streamed_reaches o q ys (Some es) o' q' rest e =
    cases (is_word (codes "stream") (token_at q ys).kind)
    (λ w.
    cases_o (length_here es)
    (λ k. never (rw (w, k, streamed, stream_rest) at e))
    (λ len k.
    let v = then_ok (inside len (token_at q ys).to (token_at q ys).rest) (λ _ r zs. ok o r zs) o' q' rest (rw (w, k, streamed, stream_rest) at e) in
    reach_as q ys v.4 (inside_reaches len (token_at q ys).to (token_at q ys).rest v.0 v.1 v.2 v.3 ∙ token_reaches q ys (word_good (codes "stream") (token_at q ys).kind w).0)))
    (λ w. reach_as q ys (rw (w, streamed) at e) refl)

-- a body's place
pub body_counts : Counts body_at
unfolding body_at object
body_counts p xs o q rest e =
    let u = then_ok (object_by 32 p xs) (λ o' q' ys. streamed o' q' ys (entries_of o') (token_at q' ys)) o q rest e in
    streamed_reaches u.0 u.1 u.2 (entries_of u.0) o q rest u.4 ∙ object_counts 32 p xs u.0 u.1 u.2 u.3
