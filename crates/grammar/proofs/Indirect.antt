-- The readers accept just those objects in the file, and those bodies, that are spelled.
use Rattle.std.proofs.Common.{◌≡◌, ℕ, ◌+◌, ◌<◌, true, false, eqb, [], ◌∷◌, ◌++◌, length, pos, Some, None, codes, sym, refl, ap, ◌∙◌, subst, arith, length-append, eq-eqb, ne_eqb, eqb-true}
use borrow.Author.Tests.{eqb-false}
use Rattle.faults.specs.declared.reason.Reason.TheVariants.{OutsideBody}
use Rattle.format.specs.Bytes.{Bytes, Got, ok, bad, then, up_to, is_white}
use Rattle.format.specs.Failures.{object_fault}
use Rattle.format.specs.Frames.{Framed, body_at, the_word, the_int, framed_body, frame_number, frame, body_ends, starts_loose, body_fault}
use Rattle.format.specs.Objects.{Obj, plain_int, is_word}
use Rattle.format.specs.Space.{skip}
use Rattle.format.specs.Strings.{turns}
use Rattle.format.specs.Tokens.{int, word, Token, start_at, token_at}
use Rattle.locality.specs.Locality.{Good}
use Rattle.locality.proofs.Cases.{cases, cases_o}
use Rattle.locality.proofs.Local.{never, same_rest, same_value, same_place, then_ok, up_to_taken}
use Rattle.locality.proofs.Places.{skip_reaches, reached}
use Rattle.locality.proofs.Spaces.{tight_stays, skip_tight, stays_tight}
use Rattle.locality.proofs.Streams.{BodyHeld, body_local, body_counts}
use Rattle.locality.proofs.Tests.{clash, or_none}
use Rattle.grammar.specs.Indirect.{Solid, IndirectAt, WholeBody}
use Rattle.grammar.specs.Lexing.{Lexeme, Lexes}
use Rattle.grammar.specs.Reading.{IndirectObjectsAreSpelled, lexeme_of}
use Rattle.grammar.specs.Streams.{BodyAt}
use Rattle.grammar.proofs.Gaps.{gap_skips, skip_gap}
use Rattle.grammar.proofs.References.{is_plain, plain_is, is_word_fact, word_is, good_int, good_word}
use Rattle.grammar.proofs.Sequences.{head, single, one_lexes, lexes_join, lexes_shorter}
use Rattle.grammar.proofs.Streams.{streams_are_spelled}

-- a token that is an unsigned integer
int_read : (t : Token) (n : ℕ) → t.kind ≡ int true (pos n) → the_int t ≡ ok n t.to t.rest
unfolding the_int
int_read t n e = rw (plain_is t.kind n e, the_int) refl

read_int : (t : Token) (n p : ℕ) (xs : Bytes) → the_int t ≡ ok n p xs → (t.kind ≡ int true (pos n)) × (t.to ≡ p) × (t.rest ≡ xs)
unfolding the_int
read_int t n p xs e =
    cases_o (plain_int t.kind)
    (λ a. never (rw (a, the_int) at e))
    (λ m a.
    let h : ok m t.to t.rest ≡ ok n p xs = rw (a, the_int) at e in
    (is_plain t.kind n (a ∙ ap Some (same_value h)), same_place h, same_rest h))

-- a token that is a word
the_word_read : (w : Bytes) (t : Token) → t.kind ≡ word w → the_word w t ≡ ok tt t.to t.rest
unfolding the_word
the_word_read w t e = rw (word_is w t.kind e, the_word) refl

read_the_word : (w : Bytes) (t : Token) (u : Unit) (p : ℕ) (xs : Bytes) → the_word w t ≡ ok u p xs → (t.kind ≡ word w) × (t.to ≡ p) × (t.rest ≡ xs)
unfolding the_word
read_the_word w t u p xs e =
    cases (is_word w t.kind)
    (λ a. let h : ok tt t.to t.rest ≡ ok u p xs = rw (a, the_word) at e in (is_word_fact w t.kind a, same_place h, same_rest h))
    (λ a. never (rw (a, the_word) at e))

-- where nothing is skipped, the token starts right there
start_here : (p : ℕ) (xs : Bytes) → (skip false p xs).0 ≡ p → start_at p xs ≡ token_at p xs
unfolding token_at skip
start_here p [] e = refl
start_here p (x ∷ xs) e = rw (tight_stays p x xs (stays_tight p x xs e)) refl

empty : (xs : Bytes) → length xs ≡ 0 → xs ≡ []
empty [] e = refl
empty (x ∷ xs) e = absurd (omega arith)

-- the number, right at the place
number_read : (p : ℕ) (xs : Bytes) (n : ℕ) → (skip false p xs).0 ≡ p → (token_at p xs).kind ≡ int true (pos n) → frame_number p xs ≡ ok n (token_at p xs).to (token_at p xs).rest
unfolding frame_number
number_read p xs n e k = rw (eq-eqb (skip false p xs).0 p e, frame_number) (rw (start_here p xs e) (int_read (token_at p xs) n k))

read_number : (p : ℕ) (xs : Bytes) (n q : ℕ) (rest : Bytes) → frame_number p xs ≡ ok n q rest → ((skip false p xs).0 ≡ p) × ((token_at p xs).kind ≡ int true (pos n)) × ((token_at p xs).to ≡ q) × ((token_at p xs).rest ≡ rest)
unfolding frame_number
read_number p xs n q rest e =
    cases (eqb (skip false p xs).0 p)
    (λ a.
    let s = eqb-true (skip false p xs).0 p a in
    let h : the_int (start_at p xs) ≡ ok n q rest = rw (a, frame_number) at e in
    let v = read_int (token_at p xs) n q rest (ap the_int (sym (start_here p xs s)) ∙ h) in
    (s, v.0, v.1, v.2))
    (λ a. never (rw (a, frame_number) at e))

solid_stays : {b : Bytes} → Solid b → (p : ℕ) (ys : Bytes) → skip false p (b ++ ys) ≡ (p, b ++ ys)
solid_stays (Solid.solid {c} {xs} w n) p ys = tight_stays p c (xs ++ ys) (record { black = w; plain = ne_eqb c 37 n })

-- bytes taken by a body
record Bodied (p : ℕ) (xs : Bytes) (q : ℕ) (rest : Bytes) : Type 0 where
  parts : xs ≡ up_to p xs q ++ rest
  first : ℕ
  others : Bytes
  is : up_to p xs q ≡ first ∷ others

bodied : (p : ℕ) (xs : Bytes) (o : Obj) (q : ℕ) (rest : Bytes) → body_at p xs ≡ ok o q rest → Bodied p xs q rest
bodied p xs o q rest e = go (body_local p xs o q rest e)
  where
    go : BodyHeld xs o rest → Bodied p xs q rest
    go b =
        let at : q ≡ p + length b.loc.pre = reached p xs q b.loc.pre rest b.loc.parts (body_counts p xs o q rest e) in
        let u : up_to p xs q ≡ b.loc.pre = ap {B = Bytes} (λ ys. up_to p ys q) b.loc.parts ∙ up_to_taken p q b.loc.pre rest at in
        record { parts = b.loc.parts ∙ ap {B = Bytes} (λ ys. ys ++ rest) (sym u); first = b.first; others = b.others; is = u ∙ b.some }

-- the body and `endobj`
record Ending (n g p : ℕ) (xs : Bytes) (r : Framed) (q : ℕ) (rest : Bytes) : Type 0 where
  object : Obj
  to : ℕ
  left : Bytes
  read : body_at (skip false p xs).0 (skip false p xs).1 ≡ ok object to left
  kind : (token_at to left).kind ≡ word (codes "endobj")
  ends : (token_at to left).to ≡ q
  behind : (token_at to left).rest ≡ rest
  is : record { number = n; gen = g; start = (skip false p xs).0; body = up_to (skip false p xs).0 (skip false p xs).1 to } ≡ r

read_ending : (n g p : ℕ) (xs : Bytes) (r : Framed) (q : ℕ) (rest : Bytes) → framed_body n g (skip false p xs) ≡ ok r q rest → Ending n g p xs r q rest
unfolding framed_body
read_ending n g p xs r q rest e =
    let s : ℕ × Bytes = skip false p xs in
    let u = then_ok (body_at s.0 s.1) (λ o p' ys. then (the_word (codes "endobj") (token_at p' ys)) (λ _ q' zs. ok (record { number = n; gen = g; start = s.0; body = up_to s.0 s.1 p' }) q' zs)) r q rest e in
    let v = then_ok (the_word (codes "endobj") (token_at u.1 u.2)) (λ _ q' zs. ok (record { number = n; gen = g; start = s.0; body = up_to s.0 s.1 u.1 }) q' zs) r q rest u.4 in
    let w = read_the_word (codes "endobj") (token_at u.1 u.2) v.0 v.1 v.2 v.3 in
    record {
      object = u.0;
      to = u.1;
      left = u.2;
      read = u.3;
      kind = w.0;
      ends = w.1 ∙ same_place v.4;
      behind = w.2 ∙ same_rest v.4;
      is = same_value v.4;
    }

ending_read : (n g p : ℕ) (xs : Bytes) (o : Obj) (s : ℕ) (ys : Bytes) (to : ℕ) (left : Bytes) (q : ℕ) (rest : Bytes) → skip false p xs ≡ (s, ys) → body_at s ys ≡ ok o to left →
    (token_at to left).kind ≡ word (codes "endobj") → (token_at to left).to ≡ q → (token_at to left).rest ≡ rest →
    framed_body n g (skip false p xs) ≡ ok (record { number = n; gen = g; start = s; body = up_to s ys to }) q rest
unfolding framed_body
ending_read n g p xs o s ys to left q rest a b k e f =
    rw a (rw b (rw (the_word_read (codes "endobj") (token_at to left) k) (λ i. ok (record { number = n; gen = g; start = s; body = up_to s ys to }) (e i) (f i))))

-- the whole, by its tokens
frame_read : (p : ℕ) (xs : Bytes) (n g : ℕ) (r : Framed) (q : ℕ) (rest : Bytes) → (skip false p xs).0 ≡ p → (token_at p xs).kind ≡ int true (pos n) →
    (token_at (token_at p xs).to (token_at p xs).rest).kind ≡ int true (pos g) →
    (token_at (token_at (token_at p xs).to (token_at p xs).rest).to (token_at (token_at p xs).to (token_at p xs).rest).rest).kind ≡ word (codes "obj") →
    framed_body n g (skip false (token_at (token_at (token_at p xs).to (token_at p xs).rest).to (token_at (token_at p xs).to (token_at p xs).rest).rest).to (token_at (token_at (token_at p xs).to (token_at p xs).rest).to (token_at (token_at p xs).to (token_at p xs).rest).rest).rest) ≡ ok r q rest →
    frame p xs ≡ ok r q rest
unfolding frame
frame_read p xs n g r q rest s a b c e =
    rw (number_read p xs n s a)
    (rw (int_read (token_at (token_at p xs).to (token_at p xs).rest) g b)
    (rw (the_word_read (codes "obj") (token_at (token_at (token_at p xs).to (token_at p xs).rest).to (token_at (token_at p xs).to (token_at p xs).rest).rest) c) e))

complete_at : (p : ℕ) (xs : Bytes) (r : Framed) (q : ℕ) (rest : Bytes) → length xs < turns → IndirectAt p xs r q rest → frame p xs ≡ ok r q rest
complete_at p xs r q rest h i =
    let u = head i.begins h in
    let h₁ : length (token_at p xs).rest < turns = (let s = u.shorter in omega arith) in
    let v = head u.more h₁ in
    let h₂ : length (token_at (token_at p xs).to (token_at p xs).rest).rest < turns = (let s = v.shorter in omega arith) in
    let w = single v.more h₂ in
    let l : length i.number.lead ≡ 0 = ap length i.at_once in
    let f = u.at in
    let here : (skip false p xs).0 ≡ p = ap (λ (s : ℕ × Bytes). s.0) u.skips ∙ omega arith in
    let b : length i.bytes < turns = (let s = lexes_shorter i.begins in omega arith) in
    let n : length i.bytes ≡ length i.lead + length (r.body ++ i.left) = ap length i.parts ∙ length-append i.lead (r.body ++ i.left) in
    let read : body_at r.start (r.body ++ i.left) ≡ ok i.object i.to i.left = streams_are_spelled.complete r.start (r.body ++ i.left) i.object i.to i.left (omega arith) i.body in
    let m : length (r.body ++ i.left) ≡ length r.body + length i.left = length-append r.body i.left in
    let c = single i.closes (omega arith) in
    let st : skip false i.place i.bytes ≡ (r.start, r.body ++ i.left) =
    ap (λ ys. skip false i.place ys) i.parts ∙ gap_skips i.gap i.place (r.body ++ i.left) ∙ solid_stays i.first (i.place + length i.lead) i.left ∙ (let e = i.starts in λ j. (sym e j, r.body ++ i.left)) in
    let bd : up_to r.start (r.body ++ i.left) i.to ≡ r.body =
    up_to_taken r.start i.to r.body i.left (let e = body_counts r.start (r.body ++ i.left) i.object i.to i.left read in omega arith) in
    let t₁ = w.to in
    let t₂ = w.left in
    frame_read p xs r.number r.gen r q rest here (ap (λ (x : Lexeme). x.kind) u.lex ∙ i.number_is) (ap (λ (x : Lexeme). x.kind) v.lex ∙ i.gen_is) (w.kind ∙ i.keyword_is)
    ((λ j. framed_body r.number r.gen (skip false (t₁ j) (t₂ j)))
    ∙ ending_read r.number r.gen i.place i.bytes i.object r.start (r.body ++ i.left) i.to i.left q rest st read (c.kind ∙ i.close_is) c.to c.left
    ∙ (λ j. ok (record { number = r.number; gen = r.gen; start = r.start; body = bd j }) q rest))

-- one token up to a place
one_to : (p : ℕ) (xs : Bytes) (q : ℕ) (rest : Bytes) → Good (token_at p xs).kind → (token_at p xs).to ≡ q → (token_at p xs).rest ≡ rest → Lexes p xs (lexeme_of p xs (token_at p xs) ∷ []) q rest
one_to p xs q rest g a b = subst (λ z. Lexes p xs (lexeme_of p xs (token_at p xs) ∷ []) q z) b (subst (λ z. Lexes p xs (lexeme_of p xs (token_at p xs) ∷ []) z (token_at p xs).rest) a (one_lexes p xs g))

-- nothing stands before a token that starts right at the place
no_lead : (p : ℕ) (xs : Bytes) → length xs < turns → Good (token_at p xs).kind → (skip false p xs).0 ≡ p → (lexeme_of p xs (token_at p xs)).lead ≡ []
no_lead p xs h g e =
    let k = head (one_lexes p xs g) h in
    let a : (skip false p xs).0 ≡ (lexeme_of p xs (token_at p xs)).from = ap (λ (s : ℕ × Bytes). s.0) k.skips in
    let b = k.at in
    empty (lexeme_of p xs (token_at p xs)).lead (omega arith)

module _ (p : ℕ) (xs : Bytes) (h : length xs < turns) (n p₁ : ℕ) (x₁ : Bytes) (g p₂ : ℕ) (x₂ : Bytes) (p₃ : ℕ) (x₃ : Bytes) where
  abbrev Fronted : Type 0
  Fronted = Lexes p xs (lexeme_of p xs (token_at p xs) ∷ lexeme_of p₁ x₁ (token_at p₁ x₁) ∷ lexeme_of p₂ x₂ (token_at p₂ x₂) ∷ []) p₃ x₃

  ended_at : Fronted → (lexeme_of p xs (token_at p xs)).lead ≡ [] → (token_at p xs).kind ≡ int true (pos n) → (token_at p₁ x₁).kind ≡ int true (pos g) → (token_at p₂ x₂).kind ≡ word (codes "obj") →
      (r : Framed) (q : ℕ) (rest : Bytes) → Ending n g p₃ x₃ r q rest → IndirectAt p xs r q rest
  ended_at l o a b c r q rest d =
      let s₀ : ℕ = (skip false p₃ x₃).0 in
      let s₁ : Bytes = (skip false p₃ x₃).1 in
      let k = bodied s₀ s₁ d.object d.to d.left d.read in
      let e : s₁ ≡ k.first ∷ (k.others ++ d.left) = k.parts ∙ ap {B = Bytes} (λ ys. ys ++ d.left) k.is in
      let f = skip_gap p₃ x₃ k.first (k.others ++ d.left) e in
      let t = skip_tight false p₃ x₃ k.first (k.others ++ d.left) e in
      let m : length x₃ < turns = (let z = lexes_shorter l in omega arith) in
      let i : s₀ + length s₁ ≡ p₃ + length x₃ = skip_reaches false p₃ x₃ in
      let j : length x₃ ≡ length f.gap + length (k.first ∷ (k.others ++ d.left)) = ap length f.parts ∙ length-append f.gap (k.first ∷ (k.others ++ d.left)) in
      let v : length s₁ ≡ length (k.first ∷ (k.others ++ d.left)) = ap length e in
      let w = streams_are_spelled.sound s₀ s₁ d.object d.to d.left (omega arith) d.read in
      subst (λ z. IndirectAt p xs z q rest) d.is
      (record {
        number = lexeme_of p xs (token_at p xs);
        gen = lexeme_of p₁ x₁ (token_at p₁ x₁);
        keyword = lexeme_of p₂ x₂ (token_at p₂ x₂);
        place = p₃;
        bytes = x₃;
        begins = l;
        at_once = o;
        number_is = a;
        gen_is = b;
        keyword_is = c;
        lead = f.gap;
        object = d.object;
        to = d.to;
        left = d.left;
        gap = f.is;
        parts = f.parts ∙ ap {B = Bytes} (λ ys. f.gap ++ ys) (sym e ∙ k.parts);
        first = subst Solid (sym k.is) (Solid.solid t.black (eqb-false k.first 37 t.plain));
        starts = omega arith;
        body = subst (λ ys. BodyAt s₀ ys d.object d.to d.left) k.parts w;
        close = lexeme_of d.to d.left (token_at d.to d.left);
        closes = one_to d.to d.left q rest (good_word (token_at d.to d.left).kind (codes "endobj") d.kind) d.ends d.behind;
        close_is = d.kind;
      })

sound_at : (p : ℕ) (xs : Bytes) (r : Framed) (q : ℕ) (rest : Bytes) → length xs < turns → frame p xs ≡ ok r q rest → IndirectAt p xs r q rest
unfolding frame
sound_at p xs r q rest h e =
    let u = then_ok (frame_number p xs) (λ n p₁ x₁. then (the_int (token_at p₁ x₁)) (λ g p₂ x₂. then (the_word (codes "obj") (token_at p₂ x₂)) (λ _ p₃ x₃. framed_body n g (skip false p₃ x₃)))) r q rest e in
    let v = then_ok (the_int (token_at u.1 u.2)) (λ g p₂ x₂. then (the_word (codes "obj") (token_at p₂ x₂)) (λ _ p₃ x₃. framed_body u.0 g (skip false p₃ x₃))) r q rest u.4 in
    let w = then_ok (the_word (codes "obj") (token_at v.1 v.2)) (λ _ p₃ x₃. framed_body u.0 v.0 (skip false p₃ x₃)) r q rest v.4 in
    let a = read_number p xs u.0 u.1 u.2 u.3 in
    let b = read_int (token_at u.1 u.2) v.0 v.1 v.2 v.3 in
    let c = read_the_word (codes "obj") (token_at v.1 v.2) w.0 w.1 w.2 w.3 in
    let g = good_int (token_at p xs).kind u.0 a.1 in
    ended_at p xs h u.0 u.1 u.2 v.0 v.1 v.2 w.1 w.2
    (lexes_join (one_to p xs u.1 u.2 g a.2 a.3)
    (lexes_join (one_to u.1 u.2 v.1 v.2 (good_int (token_at u.1 u.2).kind v.0 b.0) b.1 b.2)
    (one_to v.1 v.2 w.1 w.2 (good_word (token_at v.1 v.2).kind (codes "obj") c.0) c.1 c.2)))
    (no_lead p xs h g a.0) a.1 b.0 c.0 r q rest (read_ending u.0 v.0 w.1 w.2 r q rest w.4)

-- the body ends with the bytes
ends_none : (b : Bytes) (a : Got Obj) → body_ends b a ≡ None → (o : Obj) × (q : ℕ) × (a ≡ ok o q [])
unfolding body_ends
ends_none b (bad f) e = clash (cc)
ends_none b (ok o q []) e = (o, q, refl)
ends_none b (ok o q (x ∷ xs)) e = clash (cc)

body_first : (b : Bytes) → starts_loose b ≡ false → (o : Obj) (q : ℕ) → body_at 0 b ≡ ok o q [] → Solid b
unfolding starts_loose
body_first [] e o q f = go (bodied 0 [] o q [] f)
  where
    go : Bodied 0 [] q [] → Solid []
    go k = let z : [] ≡ k.first ∷ (k.others ++ []) = k.parts ∙ ap {B = Bytes} (λ ys. ys ++ []) k.is in clash (cc)
body_first (c ∷ cs) e o q f = let n = or_none (is_white c) (eqb c 37) e in Solid.solid n.0 (eqb-false c 37 n.1)

body_sound : (b : Bytes) → length b < turns → body_fault b ≡ None → WholeBody b
unfolding body_fault
body_sound b h e =
    cases (starts_loose b)
    (λ a. clash (let z : Some (object_fault OutsideBody 0) ≡ None = rw (a, body_fault) at e in cc))
    (λ a.
    let v = ends_none b (body_at 0 b) (rw (a, body_fault) at e) in
    let c : v.1 + 0 ≡ 0 + length b = body_counts 0 b v.0 v.1 [] v.2 in
    let q : v.1 ≡ length b = omega arith in
    record {
      object = v.0;
      first = body_first b a v.0 v.1 v.2;
      body = subst (λ z. BodyAt 0 b v.0 z []) q (streams_are_spelled.sound 0 b v.0 v.1 [] h v.2);
    })

solid_loose : {b : Bytes} → Solid b → starts_loose b ≡ false
unfolding starts_loose
solid_loose (Solid.solid {c} w n) = rw (w, ne_eqb c 37 n) refl

body_complete : (b : Bytes) → length b < turns → WholeBody b → body_fault b ≡ None
unfolding body_fault body_ends
body_complete b h w = rw (solid_loose w.first, body_fault) (rw (streams_are_spelled.complete 0 b w.object (length b) [] h w.body) refl)

pub indirect_objects_are_spelled : IndirectObjectsAreSpelled
indirect_objects_are_spelled = record { sound = sound_at; complete = complete_at; body_sound = body_sound; body_complete = body_complete }
