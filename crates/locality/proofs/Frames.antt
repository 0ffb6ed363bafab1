-- An object in the file decides itself.
use Rattle.std.proofs.Common.{◌≡◌, ℕ, ◌+◌, Bool, true, false, eqb, [], ◌∷◌, ◌++◌, length, Some, codes, sym, refl, ap, ◌∙◌, subst, append_assoc, arith, length-append, eqb-true}
use Rattle.format.specs.Bytes.{Bytes, Got, ok, then, up_to, is_regular, same}
use Rattle.format.specs.Space.{skip}
use Rattle.format.specs.Tokens.{Kind, int, real, name, text, hex, mark, word, ended, flawed, Token, tok, start_at, token_at}
use Rattle.format.specs.Objects.{Obj, plain_int, plain_word, is_word}
use Rattle.format.specs.Frames.{the_word, the_int, Framed, framed_body, frame_number, frame, body_at}
use Rattle.locality.specs.Locality.{is_run, stops}
use Rattle.locality.specs.LocalityFrames.{Follows, LocalFrame}
use Rattle.locality.proofs.Cases.{cases, cases_o}
use Rattle.locality.proofs.Local.{never, same_rest, same_value, same_place, then_ok, up_to_taken}
use Rattle.locality.proofs.Tokens.{token_stops, start_stops, Gap, skip_local}
use Rattle.locality.proofs.Held.{Front, front_of, some_pre, no_ref_unless_int}
use Rattle.locality.proofs.Objects.{plain_good, word_good, same_eq}
use Rattle.locality.proofs.Spaces.{Tight, tight_stays, stays_tight, Bare, start_bare}
use Rattle.locality.proofs.Streams.{BodyHeld, body_local}
use Rattle.locality.proofs.Tests.{clash, equal}

-- no regular byte stands next
abbrev pub Edge : Bytes → Type 0
Edge ys = stops is_regular ys ≡ true

-- The reader r took some bytes of xs, down to rest, before which no regular byte may stand, and answered f of its place.
-- It does so before any bytes that begin with no regular one, from any place.
pub record Moving {A : Type 0} (r : ℕ → Bytes → Got A) (xs : Bytes) (f : ℕ → A) (rest : Bytes) : Type 0 where
  pub pre : Bytes
  pub parts : xs ≡ pre ++ rest
  pub again : (p : ℕ) (ys : Bytes) → Edge ys → r p (pre ++ ys) ≡ ok (f p) (p + length pre) ys
  pub had : Edge rest
  pub first : ℕ
  pub others : Bytes
  pub some : pre ≡ first ∷ others

-- bytes that are some decide whether a regular byte stands next
pub edge_by : (pre : Bytes) (x : ℕ) (others : Bytes) → pre ≡ x ∷ others → (ys zs : Bytes) → Edge (pre ++ ys) → Edge (pre ++ zs)
unfolding stops
edge_by pre x others e ys zs h = subst (λ us. Edge (us ++ zs)) (sym e) (subst (λ us. Edge (us ++ ys)) e h)

-- one reader after another
pub moving_then : {A B : Type 0} (r : ℕ → Bytes → Got A) (k : A → ℕ → Bytes → Got B) (xs : Bytes) (a : A) (ys : Bytes) (f : ℕ → B) (rest : Bytes) →
    (l : Moving r xs (λ _. a) ys) → Moving (k a) ys f rest → Moving (λ p zs. then (r p zs) k) xs (λ p. f (p + length l.pre)) rest
moving_then r k xs a ys f rest l m = record {
  pre = l.pre ++ m.pre;
  parts = l.parts ∙ ap (λ zs. l.pre ++ zs) m.parts ∙ sym (append_assoc l.pre m.pre rest);
  again = λ p zs e.
      rw append_assoc
      (rw (l.again p (m.pre ++ zs) (edge_by m.pre m.first m.others m.some rest zs (subst Edge m.parts l.had)))
      (m.again (p + length l.pre) zs e
      ∙ (let v : p + length l.pre + length m.pre ≡ p + length (l.pre ++ m.pre) = rw length-append (omega arith) in λ i. ok (f (p + length l.pre)) (v i) zs)));
  had = m.had;
  first = l.first;
  others = l.others ++ m.pre;
  some = ap (λ zs. zs ++ m.pre) l.some;
}

the_int_ok : (t : Token) (n q : ℕ) (rest : Bytes) → the_int t ≡ ok n q rest → (plain_int t.kind ≡ Some n) × (t.rest ≡ rest)
unfolding the_int
the_int_ok t n q rest e =
    cases_o (plain_int t.kind)
    (λ a. never (rw (a, the_int) at e))
    (λ m a. let h : ok m t.to t.rest ≡ ok n q rest = rw (a, the_int) at e in (a ∙ ap Some (same_value h), same_rest h))

the_word_ok : (w : Bytes) (t : Token) (u : Unit) (q : ℕ) (rest : Bytes) → the_word w t ≡ ok u q rest → (is_word w t.kind ≡ true) × (t.rest ≡ rest)
unfolding the_word
the_word_ok w t u q rest e =
    cases (is_word w t.kind)
    (λ a. (a, same_rest (rw (a, the_word) at e)))
    (λ a. never (rw (a, the_word) at e))

-- an unsigned integer where one has to be
pub the_int_is : (t : Token) (n : ℕ) → plain_int t.kind ≡ Some n → the_int t ≡ ok n t.to t.rest
unfolding the_int
the_int_is t n e = rw (e, the_int) refl

-- that word where it has to be
pub the_word_is : (w : Bytes) (t : Token) → is_word w t.kind ≡ true → the_word w t ≡ ok tt t.to t.rest
unfolding the_word
the_word_is w t e = rw (e, the_word) refl

plain_run : (k : Kind) (n : ℕ) → plain_int k ≡ Some n → is_run k ≡ true
unfolding plain_int is_run
plain_run (int u z) n e = refl
plain_run (real w) n e = clash (cc)
plain_run (name d) n e = clash (cc)
plain_run (text w) n e = clash (cc)
plain_run (hex w) n e = clash (cc)
plain_run (mark m) n e = clash (cc)
plain_run (word w) n e = clash (cc)
plain_run ended n e = clash (cc)
plain_run (flawed f) n e = clash (cc)

edge_none : Edge []
unfolding stops
edge_none = refl

-- where nothing is skipped, an object's number is read
pub number_is : (p : ℕ) (xs : Bytes) → skip false p xs ≡ (p, xs) → frame_number p xs ≡ the_int (start_at p xs)
unfolding frame_number
number_is p xs e = let a : eqb (skip false p xs).0 p ≡ true = ap (λ (s : ℕ × Bytes). eqb s.0 p) e ∙ equal p in rw (a, frame_number) refl

-- a number right at its place
number_moving : (p : ℕ) (xs : Bytes) (n q : ℕ) (rest : Bytes) → frame_number p xs ≡ ok n q rest → Moving frame_number xs (λ _. n) rest
unfolding frame_number
number_moving p xs n q rest e =
    cases (eqb (skip false p xs).0 p)
    (λ a. go (eqb-true (skip false p xs).0 p a) (the_int_ok (start_at p xs) n q rest (rw (a, frame_number) at e)))
    (λ a. never (rw (a, frame_number) at e))
  where
    go : (skip false p xs).0 ≡ p → (plain_int (start_at p xs).kind ≡ Some n) × ((start_at p xs).rest ≡ rest) → Moving frame_number xs (λ _. n) rest
    go s h = go₂ (start_bare p xs (plain_good (start_at p xs).kind n h.0).0)
      where
        go₂ : Bare xs (start_at p xs) → Moving frame_number xs (λ _. n) rest
        go₂ b =
            let t : Tight b.first = stays_tight p b.first (b.others ++ (start_at p xs).rest) (subst (λ zs. (skip false p zs).0 ≡ p) b.parts s) in
            record {
              pre = b.first ∷ b.others;
              parts = b.parts ∙ ap (λ zs. (b.first ∷ b.others) ++ zs) h.1;
              again = λ p' ys f.
                  number_is p' (b.first ∷ (b.others ++ ys)) (tight_stays p' b.first (b.others ++ ys) t)
                  ∙ rw (b.again p' ys (λ _. f))
                  (the_int_is (tok (start_at p xs).kind p' ((b.first ∷ b.others) ++ ys) (p' + length (b.first ∷ b.others)) ys) n h.0);
              had = subst Edge h.1 (start_stops p xs (plain_run (start_at p xs).kind n h.0));
              first = b.first;
              others = b.others;
              some = refl;
            }

-- an integer behind white space
int_moving : (p : ℕ) (xs : Bytes) (n q : ℕ) (rest : Bytes) → the_int (token_at p xs) ≡ ok n q rest → Moving (λ p' zs. the_int (token_at p' zs)) xs (λ _. n) rest
int_moving p xs n q rest e = go (the_int_ok (token_at p xs) n q rest e)
  where
    go : (plain_int (token_at p xs).kind ≡ Some n) × ((token_at p xs).rest ≡ rest) → Moving (λ p' zs. the_int (token_at p' zs)) xs (λ _. n) rest
    go h = go₂ (front_of p xs (plain_good (token_at p xs).kind n h.0).0)
      where
        go₂ : Front xs (token_at p xs) → Moving (λ p' zs. the_int (token_at p' zs)) xs (λ _. n) rest
        go₂ l = go₃ (some_pre l.pre (token_at p xs).kind (plain_good (token_at p xs).kind n h.0).0 (ap (λ (u : Token). u.kind) (l.again 0 [] (λ _. edge_none))))
          where
            go₃ : (x : ℕ) × (pre' : Bytes) × (l.pre ≡ x ∷ pre') → Moving (λ p' zs. the_int (token_at p' zs)) xs (λ _. n) rest
            go₃ s = record {
              pre = l.pre;
              parts = l.parts ∙ ap (λ zs. l.pre ++ zs) h.1;
              again = λ p' ys f. rw (l.again p' ys (λ _. f)) (the_int_is (tok (token_at p xs).kind (l.from p') (l.bytes ys) (p' + length l.pre) ys) n h.0);
              had = subst Edge h.1 (token_stops p xs (plain_run (token_at p xs).kind n h.0));
              first = s.0;
              others = s.1;
              some = s.2;
            }

-- a word behind white space, and that it is that word
record Worded (w : Bytes) (xs rest : Bytes) : Type 0 where
  way : Moving (λ p zs. the_word w (token_at p zs)) xs (λ _. tt) rest
  front : (p : ℕ) (ys : Bytes) → Edge ys → (token_at p (way.pre ++ ys)).kind ≡ word w

word_is : (w : Bytes) (k : Kind) → is_word w k ≡ true → k ≡ word w
unfolding is_word plain_word
word_is w (word v) e = ap word (sym (same_eq w v e))
word_is w (int u z) e = clash (cc)
word_is w (real v) e = clash (cc)
word_is w (name d) e = clash (cc)
word_is w (text v) e = clash (cc)
word_is w (hex v) e = clash (cc)
word_is w (mark m) e = clash (cc)
word_is w ended e = clash (cc)
word_is w (flawed f) e = clash (cc)

word_moving : (w : Bytes) (p : ℕ) (xs : Bytes) (u : Unit) (q : ℕ) (rest : Bytes) → the_word w (token_at p xs) ≡ ok u q rest → Worded w xs rest
word_moving w p xs u q rest e = go (the_word_ok w (token_at p xs) u q rest e)
  where
    go : (is_word w (token_at p xs).kind ≡ true) × ((token_at p xs).rest ≡ rest) → Worded w xs rest
    go h = go₂ (front_of p xs (word_good w (token_at p xs).kind h.0).0)
      where
        go₂ : Front xs (token_at p xs) → Worded w xs rest
        go₂ l = go₃ (some_pre l.pre (token_at p xs).kind (word_good w (token_at p xs).kind h.0).0 (ap (λ (u : Token). u.kind) (l.again 0 [] (λ _. edge_none))))
          where
            go₃ : (x : ℕ) × (pre' : Bytes) × (l.pre ≡ x ∷ pre') → Worded w xs rest
            go₃ s = record {
              way = record {
                pre = l.pre;
                parts = l.parts ∙ ap (λ zs. l.pre ++ zs) h.1;
                again = λ p' ys f. rw (l.again p' ys (λ _. f)) (the_word_is w (tok (token_at p xs).kind (l.from p') (l.bytes ys) (p' + length l.pre) ys) h.0);
                had = subst Edge h.1 (token_stops p xs (word_good w (token_at p xs).kind h.0).1);
                first = s.0;
                others = s.1;
                some = s.2;
              };
              front = λ p' ys f. ap (λ (u : Token). u.kind) (l.again p' ys (λ _. f)) ∙ word_is w (token_at p xs).kind h.0;
            }

first_of : (a : Bytes) (x : ℕ) (b : Bytes) → (y : ℕ) × (c : Bytes) × (a ++ (x ∷ b) ≡ y ∷ c)
first_of [] x b = (x, b, refl)
first_of (y ∷ a) x b = (y, a ++ (x ∷ b), refl)

-- the word `endobj` does not lengthen a body
pub end_follows : (edged : Bool) (o : Obj) (ys : Bytes) → (edged ≡ true → Edge ys) → ((p : ℕ) → (token_at p ys).kind ≡ word (codes "endobj")) → Follows edged o ys
unfolding plain_int is_word plain_word same
end_follows edged o ys h k = record {
  edge = h;
  alone = λ _ n p. no_ref_unless_int n (token_at p ys) (ap plain_int (k p));
  no_stream = λ p. ap (is_word (codes "stream")) (k p);
}

abbrev framed_as : ℕ → ℕ → Bytes → ℕ → ℕ → Framed
framed_as n g b lead p = record { number = n; gen = g; start = p + lead; body = b }

-- a body behind white space, and `endobj`
record Framing (n g : ℕ) (xs rest : Bytes) : Type 0 where
  body : Bytes
  lead : ℕ
  way : Moving (λ p zs. framed_body n g (skip false p zs)) xs (framed_as n g body lead) rest

body_moving : (n g p : ℕ) (xs : Bytes) (r : Framed) (q : ℕ) (rest : Bytes) → framed_body n g (skip false p xs) ≡ ok r q rest → Framing n g xs rest
unfolding framed_body
body_moving n g p xs r q rest e =
    let s : ℕ × Bytes = skip false p xs in
    let u = then_ok (body_at s.0 s.1) (λ o p₁ ys. then (the_word (codes "endobj") (token_at p₁ ys)) (λ _ q₁ zs. ok (record { number = n; gen = g; start = s.0; body = up_to s.0 s.1 p₁ }) q₁ zs)) r q rest e in
    let v = then_ok (the_word (codes "endobj") (token_at u.1 u.2)) (λ _ q₁ zs. ok (record { number = n; gen = g; start = s.0; body = up_to s.0 s.1 u.1 }) q₁ zs) r q rest u.4 in
    go u.0 u.2 (body_local s.0 s.1 u.0 u.1 u.2 u.3)
    (subst (λ zs. Worded (codes "endobj") u.2 zs) (same_rest v.4) (word_moving (codes "endobj") u.1 u.2 v.0 v.1 v.2 v.3))
  where
    go : (o : Obj) (ys : Bytes) → BodyHeld (skip false p xs).1 o ys → Worded (codes "endobj") ys rest → Framing n g xs rest
    go o ys h m = go₂ (skip_local false p xs h.first (h.others ++ ys) (h.loc.parts ∙ ap (λ zs. zs ++ ys) h.some))
      where
        go₂ : Gap false xs h.first (h.others ++ ys) → Framing n g xs rest
        go₂ w = go₃ (first_of w.pre h.first (h.others ++ m.way.pre))
          where
            regroup : (zs : Bytes) → (w.pre ++ (h.loc.pre ++ m.way.pre)) ++ zs ≡ w.pre ++ (h.loc.pre ++ (m.way.pre ++ zs))
            regroup zs = simp append_assoc

            skipped : (p' : ℕ) (zs : Bytes) → skip false p' (w.pre ++ (h.loc.pre ++ zs)) ≡ (p' + length w.pre, h.loc.pre ++ zs)
            skipped p' zs = rw h.some (w.again p' (h.others ++ zs))

            follows : (zs : Bytes) → Edge zs → Follows h.edged o (m.way.pre ++ zs)
            follows zs f = end_follows h.edged o (m.way.pre ++ zs)
                (λ i. edge_by m.way.pre m.way.first m.way.others m.way.some rest zs (subst Edge m.way.parts (h.had i)))
                (λ p'. m.front p' zs f)

            go₃ : (y : ℕ) × (c : Bytes) × (w.pre ++ (h.first ∷ (h.others ++ m.way.pre)) ≡ y ∷ c) → Framing n g xs rest
            go₃ z = record {
              body = h.loc.pre;
              lead = length w.pre;
              way = record {
                pre = w.pre ++ (h.loc.pre ++ m.way.pre);
                parts = w.parts ∙ ap (λ zs. w.pre ++ zs) (ap (λ zs. zs ++ ys) (sym h.some) ∙ ap (λ zs. h.loc.pre ++ zs) m.way.parts) ∙ sym (regroup rest);
                again = λ p' zs f.
                    rw (regroup zs)
                    (rw (skipped p' (m.way.pre ++ zs))
                    (rw (h.loc.again (p' + length w.pre) (m.way.pre ++ zs) (follows zs f))
                    (rw (m.way.again (p' + length w.pre + length h.loc.pre) zs f)
                    (rw (up_to_taken (p' + length w.pre) (p' + length w.pre + length h.loc.pre) h.loc.pre (m.way.pre ++ zs) refl)
                    (let v : p' + length w.pre + length h.loc.pre + length m.way.pre ≡ p' + length (w.pre ++ (h.loc.pre ++ m.way.pre)) = simp length-append (omega arith) in
                    λ i. ok (framed_as n g h.loc.pre (length w.pre) p') (v i) zs)))));
                had = m.way.had;
                first = z.0;
                others = z.1;
                some = ap (λ zs. w.pre ++ (zs ++ m.way.pre)) h.some ∙ z.2;
              };
            }

-- an object in the file: it starts its body so far behind its place, and answers so from any place
pub record FrameHeld (xs : Bytes) (rest : Bytes) : Type 0 where
  pub number : ℕ
  pub gen : ℕ
  pub body : Bytes
  pub lead : ℕ
  pub way : Moving frame xs (framed_as number gen body lead) rest

-- an object in the file decides itself
pub frame_held : (p : ℕ) (xs : Bytes) (r : Framed) (q : ℕ) (rest : Bytes) → frame p xs ≡ ok r q rest → FrameHeld xs rest
unfolding frame
frame_held p xs r q rest e =
    let a = then_ok (frame_number p xs) (λ n p₁ xs₁. then (the_int (token_at p₁ xs₁)) (λ g p₂ xs₂. then (the_word (codes "obj") (token_at p₂ xs₂)) (λ _ p₃ xs₃. framed_body n g (skip false p₃ xs₃)))) r q rest e in
    let b = then_ok (the_int (token_at a.1 a.2)) (λ g p₂ xs₂. then (the_word (codes "obj") (token_at p₂ xs₂)) (λ _ p₃ xs₃. framed_body a.0 g (skip false p₃ xs₃))) r q rest a.4 in
    let c = then_ok (the_word (codes "obj") (token_at b.1 b.2)) (λ _ p₃ xs₃. framed_body a.0 b.0 (skip false p₃ xs₃)) r q rest b.4 in
    go a.0 a.2 b.0 b.2 c.2
    (number_moving p xs a.0 a.1 a.2 a.3)
    (int_moving a.1 a.2 b.0 b.1 b.2 b.3)
    (word_moving (codes "obj") b.1 b.2 c.0 c.1 c.2 c.3)
    (body_moving a.0 b.0 c.1 c.2 r q rest c.4)
  where
    go : (n : ℕ) (xs₁ : Bytes) (g : ℕ) (xs₂ xs₃ : Bytes) → Moving frame_number xs (λ _. n) xs₁ → Moving (λ p' zs. the_int (token_at p' zs)) xs₁ (λ _. g) xs₂ → Worded (codes "obj") xs₂ xs₃ → Framing n g xs₃ rest → FrameHeld xs rest
    go n xs₁ g xs₂ xs₃ i j k l =
        let a = moving_then (λ p' zs. the_word (codes "obj") (token_at p' zs)) (λ _ p₃ zs. framed_body n g (skip false p₃ zs)) xs₂ tt xs₃ (framed_as n g l.body l.lead) rest k.way l.way in
        let b = moving_then (λ p' zs. the_int (token_at p' zs)) (λ h p₂ zs. then (the_word (codes "obj") (token_at p₂ zs)) (λ _ p₃ us. framed_body n h (skip false p₃ us))) xs₁ g xs₂ (λ p'. framed_as n g l.body l.lead (p' + length k.way.pre)) rest j a in
        let c = moving_then frame_number (λ m p₁ zs. then (the_int (token_at p₁ zs)) (λ h p₂ us. then (the_word (codes "obj") (token_at p₂ us)) (λ _ p₃ vs. framed_body m h (skip false p₃ vs)))) xs n xs₁ (λ p'. framed_as n g l.body l.lead (p' + length j.pre + length k.way.pre)) rest i b in
        record {
          number = n;
          gen = g;
          body = l.body;
          lead = length i.pre + length j.pre + length k.way.pre + l.lead;
          way = shifted c;
        }
      where
        shifted : Moving frame xs (λ p'. framed_as n g l.body l.lead (p' + length i.pre + length j.pre + length k.way.pre)) rest →
            Moving frame xs (framed_as n g l.body (length i.pre + length j.pre + length k.way.pre + l.lead)) rest
        shifted m = record {
          pre = m.pre;
          parts = m.parts;
          again = λ p' ys f. m.again p' ys f
              ∙ (let v : p' + length i.pre + length j.pre + length k.way.pre + l.lead ≡ p' + (length i.pre + length j.pre + length k.way.pre + l.lead) = omega arith in
              λ t. ok (record { number = n; gen = g; start = v t; body = l.body }) (p' + length m.pre) ys);
          had = m.had;
          first = m.first;
          others = m.others;
          some = m.some;
        }

-- an object in the file stays the same before other bytes
pub frame_local : (p : ℕ) (xs : Bytes) (r : Framed) (q : ℕ) (rest : Bytes) → frame p xs ≡ ok r q rest → LocalFrame p xs r q rest
frame_local p xs r q rest e = go (frame_held p xs r q rest e)
  where
    go : FrameHeld xs rest → LocalFrame p xs r q rest
    go h =
        let a : frame p xs ≡ ok (framed_as h.number h.gen h.body h.lead p) (p + length h.way.pre) rest = ap (frame p) h.way.parts ∙ h.way.again p rest h.way.had in
        let v : framed_as h.number h.gen h.body h.lead p ≡ r = same_value (sym a ∙ e) in
        let w : p + length h.way.pre ≡ q = same_place (sym a ∙ e) in
        record {
          taken = h.way.pre;
          parts = h.way.parts;
          ends = sym w;
          fits = h.way.had;
          again = λ ys f. h.way.again p ys f ∙ (λ i. ok (v i) (w i) ys);
        }
