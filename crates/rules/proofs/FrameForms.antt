-- An object in the file: what is read is what the bytes are.
use Rattle.std.proofs.Common.{◌≡◌, ℕ, ◌+◌, ◌<◌, true, false, eqb, [], ◌∷◌, ◌++◌, length, pos, negsuc, Some, codes, sym, refl, ap, ◌∙◌, subst, arith, length-append}
use Rattle.std.proofs.lemmas.Bool.{eqb-true}
use Rattle.format.specs.Bytes.{Bytes, Got, ok, then, up_to}
use Rattle.format.specs.Frames.{Framed, the_word, the_int, framed_body, frame_number, frame, body_at}
use Rattle.format.specs.Objects.{Obj, plain_int, is_word}
use Rattle.format.specs.Space.{skip}
use Rattle.format.specs.Strings.{turns}
use Rattle.format.specs.Tokens.{Kind, int, real, name, text, hex, mark, word, ended, flawed, Token, start_at, token_at}
use Rattle.locality.specs.Locality.{Good}
use Rattle.locality.proofs.Cases.{cases, cases_o}
use Rattle.locality.proofs.Frames.{the_int_is, the_word_is, number_is}
use Rattle.locality.proofs.Local.{up_to_taken}
use Rattle.locality.proofs.Places.{reached}
use Rattle.locality.proofs.Spaces.{tight_stays, stays_tight, skip_tight}
use Rattle.locality.proofs.Streams.{BodyHeld, body_local, body_counts}
use Rattle.locality.proofs.Tests.{clash}
use Rattle.sections.proofs.Local.{not_bad, then_ok}
use Rattle.grammar.specs.Gaps.{Gap}
use Rattle.grammar.specs.Lexing.{Lexeme, Lexes}
use Rattle.grammar.specs.Reading.{lexeme_of}
use Rattle.grammar.proofs.Gaps.{gap_skips, skip_gap}
use Rattle.grammar.proofs.References.{is_word_fact, word_is}
use Rattle.grammar.proofs.Sequences.{head, one_lexes, lexes_join, lexes_none, lexes_shorter, single}
use Rattle.grammar.proofs.Streams.{streams_are_spelled}
use Rattle.rules.specs.Frames.{Solid, ObjectBytes}
use Rattle.rules.proofs.SectionForms.{then_is}

-- an unsigned integer, by its token
plain_int_fact : (k : Kind) (n : ℕ) → plain_int k ≡ Some n → k ≡ int true (pos n)
unfolding plain_int
plain_int_fact (int true (pos m)) n e = let q : m ≡ n = cc in ap {B = Kind} (λ j. int true (pos j)) q
plain_int_fact (int true (negsuc m)) n e = clash (cc)
plain_int_fact (int false z) n e = clash (cc)
plain_int_fact (real w) n e = clash (cc)
plain_int_fact (name d) n e = clash (cc)
plain_int_fact (text w) n e = clash (cc)
plain_int_fact (hex w) n e = clash (cc)
plain_int_fact (mark m) n e = clash (cc)
plain_int_fact (word w) n e = clash (cc)
plain_int_fact ended n e = clash (cc)
plain_int_fact (flawed f) n e = clash (cc)

int_plain : (k : Kind) (n : ℕ) → k ≡ int true (pos n) → plain_int k ≡ Some n
unfolding plain_int
int_plain k n e = rw e refl

good_int : (k : Kind) (n : ℕ) → k ≡ int true (pos n) → Good k
unfolding Good
good_int k n e = rw e tt

-- a token that has to be an integer, or that word
record Took (k : Kind) (t : Token) (q : ℕ) (rest : Bytes) : Type 0 where
  kind : t.kind ≡ k
  to : t.to ≡ q
  left : t.rest ≡ rest

took_int : (t : Token) (n q : ℕ) (rest : Bytes) → the_int t ≡ ok n q rest → Took (int true (pos n)) t q rest
unfolding the_int
took_int t n q rest e =
    cases_o (plain_int t.kind)
    (λ a. not_bad (rw (a, the_int) at e))
    (λ m a.
    let h : ◌≡◌ {A = Got ℕ} (ok m t.to t.rest) (ok n q rest) = rw (a, the_int) at e in
    let w : m ≡ n = cc in
    record { kind = plain_int_fact t.kind n (a ∙ ap Some w); to = cc; left = cc })

took_word : (w : Bytes) (t : Token) (u : Unit {0}) (q : ℕ) (rest : Bytes) → the_word w t ≡ ok u q rest → Took (word w) t q rest
unfolding the_word
took_word w t u q rest e =
    cases (is_word w t.kind)
    (λ a.
    let h : ◌≡◌ {A = Got (Unit {0})} (ok tt t.to t.rest) (ok u q rest) = rw (a, the_word) at e in
    record { kind = is_word_fact w t.kind a; to = cc; left = cc })
    (λ a. not_bad (rw (a, the_word) at e))

-- one token where it has to be
took_lexes : (p : ℕ) (xs : Bytes) (k : Kind) (q : ℕ) (rest : Bytes) → Good k → Took k (token_at p xs) q rest → Lexes p xs (lexeme_of p xs (token_at p xs) ∷ []) q rest
took_lexes p xs k q rest g t =
    subst (λ (x : ℕ). Lexes p xs (lexeme_of p xs (token_at p xs) ∷ []) x rest) t.to
    (subst (λ (ys : Bytes). Lexes p xs (lexeme_of p xs (token_at p xs) ∷ []) (token_at p xs).to ys) t.left (one_lexes p xs (subst Good (sym t.kind) g)))

-- where nothing is skipped
stays : (p : ℕ) (xs : Bytes) → (skip false p xs).0 ≡ p → skip false p xs ≡ (p, xs)
unfolding skip
stays p [] e = refl
stays p (x ∷ xs) e = tight_stays p x xs (stays_tight p x xs e)

token_start : (p : ℕ) (xs : Bytes) → skip false p xs ≡ (p, xs) → token_at p xs ≡ start_at p xs
unfolding token_at
token_start p xs e = ap (λ (s : ℕ × Bytes). start_at s.0 s.1) e

-- a number right at its place
number_shape : (p : ℕ) (xs : Bytes) (n q : ℕ) (rest : Bytes) → frame_number p xs ≡ ok n q rest → (skip false p xs ≡ (p, xs)) × Took (int true (pos n)) (token_at p xs) q rest
unfolding frame_number
number_shape p xs n q rest e =
    cases (eqb (skip false p xs).0 p)
    (λ a.
    let s = stays p xs (eqb-true (skip false p xs).0 p a) in
    (s, subst (λ (t : Token). Took (int true (pos n)) t q rest) (sym (token_start p xs s)) (took_int (start_at p xs) n q rest (rw (a, frame_number) at e))))
    (λ a. not_bad (rw (a, frame_number) at e))

-- the body, behind white space and comments, and `endobj`
record BodyShape (p : ℕ) (xs : Bytes) (n g : ℕ) (r : Framed) : Type 0 where
  lead : Bytes
  leads : Gap lead
  own : Bytes
  behind : Bytes
  parts : xs ≡ lead ++ (own ++ behind)
  solid : Solid own
  object : Obj
  reads : body_at (p + length lead) (own ++ behind) ≡ ok object (p + length lead + length own) behind
  end : ℕ
  rest : Bytes
  last : Took (word (codes "endobj")) (token_at (p + length lead + length own) behind) end rest
  is : record { number = n; gen = g; start = p + length lead; body = own } ≡ r

abbrev framed_end : ℕ → ℕ → (ℕ × Bytes) → ℕ → Bytes → Got Framed
framed_end n g s p xs =
    then (the_word (codes "endobj") (token_at p xs)) (λ _ q ys. ok (record { number = n; gen = g; start = s.0; body = up_to s.0 s.1 p }) q ys)

body_shape : (n g p : ℕ) (xs : Bytes) (r : Framed) (q : ℕ) (rest : Bytes) → framed_body n g (skip false p xs) ≡ ok r q rest → BodyShape p xs n g r
unfolding framed_body
body_shape n g p xs r q rest e =
    then_ok (body_at (skip false p xs).0 (skip false p xs).1) (λ o p₁ ys. framed_end n g (skip false p xs) p₁ ys) e
    (λ o p₁ ys a f.
    then_ok (the_word (codes "endobj") (token_at p₁ ys)) (λ _ q₁ zs. ok (record { number = n; gen = g; start = (skip false p xs).0; body = up_to (skip false p xs).0 (skip false p xs).1 p₁ }) q₁ zs) f
    (λ u q₁ zs c d.
    let w : ◌≡◌ {A = Framed} (record { number = n; gen = g; start = (skip false p xs).0; body = up_to (skip false p xs).0 (skip false p xs).1 p₁ }) r = cc in
    shaped o p₁ ys a (body_local (skip false p xs).0 (skip false p xs).1 o p₁ ys a) q₁ zs (took_word (codes "endobj") (token_at p₁ ys) u q₁ zs c) w))
  where
    shaped : (o : Obj) (p₁ : ℕ) (ys : Bytes) → body_at (skip false p xs).0 (skip false p xs).1 ≡ ok o p₁ ys → BodyHeld (skip false p xs).1 o ys → (q₁ : ℕ) (zs : Bytes) → Took (word (codes "endobj")) (token_at p₁ ys) q₁ zs →
        ◌≡◌ {A = Framed} (record { number = n; gen = g; start = (skip false p xs).0; body = up_to (skip false p xs).0 (skip false p xs).1 p₁ }) r → BodyShape p xs n g r
    shaped o p₁ ys a h q₁ zs c w =
        let own : Bytes = h.loc.pre in
        let s₁ : (skip false p xs).1 ≡ h.loc.pre ++ ys = h.loc.parts in
        let s₂ : (skip false p xs).1 ≡ h.first ∷ (h.others ++ ys) = s₁ ∙ ap (λ us. us ++ ys) h.some in
        let b = skip_gap p xs h.first (h.others ++ ys) s₂ in
        let t = skip_tight false p xs h.first (h.others ++ ys) s₂ in
        let s₀ : (skip false p xs).0 ≡ p + length b.gap =
        ap (λ (s : ℕ × Bytes). s.0) (ap (skip false p) b.parts ∙ gap_skips b.is p (h.first ∷ (h.others ++ ys)) ∙ tight_stays (p + length b.gap) h.first (h.others ++ ys) t) in
        let n₁ : p₁ ≡ (skip false p xs).0 + length h.loc.pre = reached (skip false p xs).0 (skip false p xs).1 p₁ h.loc.pre ys s₁ (body_counts (skip false p xs).0 (skip false p xs).1 o p₁ ys a) in
        let n₂ : p₁ ≡ p + length b.gap + length h.loc.pre = omega arith in
        let u : up_to (skip false p xs).0 (skip false p xs).1 p₁ ≡ h.loc.pre = ap (λ us. up_to (skip false p xs).0 us p₁) s₁ ∙ up_to_taken (skip false p xs).0 p₁ h.loc.pre ys n₁ in
        record {
          lead = b.gap;
          leads = b.is;
          own = h.loc.pre;
          behind = ys;
          parts = b.parts ∙ ap (λ us. b.gap ++ us) (sym (ap (λ us. us ++ ys) h.some));
          solid = record { first = h.first; others = h.others; is = h.some; black = t.black; plain = t.plain };
          object = o;
          reads = (λ i. body_at (sym s₀ i) (sym s₁ i)) ∙ a ∙ (λ i. ok o (n₂ i) ys);
          end = q₁;
          rest = zs;
          last = subst (λ (x : ℕ). Took (word (codes "endobj")) (token_at x ys) q₁ zs) n₂ c;
          is = (λ i. record { number = n; gen = g; start = sym s₀ i; body = sym u i }) ∙ w;
        }

-- an object that was read
pub frame_shape : (p : ℕ) (xs : Bytes) (r : Framed) (q : ℕ) (rest : Bytes) → length xs < turns → frame p xs ≡ ok r q rest → ObjectBytes p r.number r.gen r.body xs
unfolding frame Good
frame_shape p xs r q rest small e =
    then_ok (frame_number p xs) (λ n p₁ xs₁. then (the_int (token_at p₁ xs₁)) (λ g p₂ xs₂. then (the_word (codes "obj") (token_at p₂ xs₂)) (λ _ p₃ xs₃. framed_body n g (skip false p₃ xs₃)))) e
    (λ n p₁ xs₁ e₁ f₁.
    then_ok (the_int (token_at p₁ xs₁)) (λ g p₂ xs₂. then (the_word (codes "obj") (token_at p₂ xs₂)) (λ _ p₃ xs₃. framed_body n g (skip false p₃ xs₃))) f₁
    (λ g p₂ xs₂ e₂ f₂.
    then_ok (the_word (codes "obj") (token_at p₂ xs₂)) (λ _ p₃ xs₃. framed_body n g (skip false p₃ xs₃)) f₂
    (λ u p₃ xs₃ e₃ f₃.
    let a = number_shape p xs n p₁ xs₁ e₁ in
    let b = took_int (token_at p₁ xs₁) g p₂ xs₂ e₂ in
    let c = took_word (codes "obj") (token_at p₂ xs₂) u p₃ xs₃ e₃ in
    let d = body_shape n g p₃ xs₃ r q rest f₃ in
    let l₁ = took_lexes p xs (int true (pos n)) p₁ xs₁ tt a.1 in
    let l₂ = took_lexes p₁ xs₁ (int true (pos g)) p₂ xs₂ tt b in
    let l₃ = took_lexes p₂ xs₂ (word (codes "obj")) p₃ xs₃ tt c in
    let s₁ = lexes_shorter l₁ in
    let s₂ = lexes_shorter l₂ in
    let s₃ = lexes_shorter l₃ in
    let m₁ = ap length d.parts ∙ length-append d.lead (d.own ++ d.behind) in
    let h = head l₁ small in
    subst (λ (x : Framed). ObjectBytes p x.number x.gen x.body xs) d.is
    (record {
      number = lexeme_of p xs (token_at p xs);
      generation = lexeme_of p₁ xs₁ (token_at p₁ xs₁);
      keyword = lexeme_of p₂ xs₂ (token_at p₂ xs₂);
      place = p₃;
      bytes = xs₃;
      begins = lexes_join l₁ (lexes_join l₂ l₃);
      stands = ap (λ (s : ℕ × Bytes). s.0) (sym h.skips ∙ a.0);
      bears = a.1.kind;
      dated = b.kind;
      opens = c.kind;
      lead = d.lead;
      leads = d.leads;
      behind = d.behind;
      parts = d.parts;
      solid = d.solid;
      object = d.object;
      spelled = streams_are_spelled.sound (p₃ + length d.lead) (d.own ++ d.behind) d.object (p₃ + length d.lead + length d.own) d.behind (omega arith) d.reads;
      last = lexeme_of (p₃ + length d.lead + length d.own) d.behind (token_at (p₃ + length d.lead + length d.own) d.behind);
      end = d.end;
      rest = d.rest;
      ends = took_lexes (p₃ + length d.lead + length d.own) d.behind (word (codes "endobj")) d.end d.rest tt d.last;
      closes = d.last.kind;
    }))))

-- an integer and a word where they have to be
int_taken : (t : Token) (n q : ℕ) (rest : Bytes) → Took (int true (pos n)) t q rest → the_int t ≡ ok n q rest
int_taken t n q rest k = the_int_is t n (int_plain t.kind n k.kind) ∙ (let u = k.to in let v = k.left in λ i. ok n (u i) (v i))

word_taken : (w : Bytes) (t : Token) (q : ℕ) (rest : Bytes) → Took (word w) t q rest → the_word w t ≡ ok tt q rest
word_taken w t q rest k = the_word_is w t (word_is w t.kind k.kind) ∙ (let u = k.to in let v = k.left in λ i. ok tt (u i) (v i))

solid_stays : (xs : Bytes) → Solid xs → (p : ℕ) (ys : Bytes) → skip false p (xs ++ ys) ≡ (p, xs ++ ys)
solid_stays xs s p ys = subst (λ us. skip false p (us ++ ys) ≡ (p, us ++ ys)) (sym s.is) (tight_stays p s.first (s.others ++ ys) (record { black = s.black; plain = s.plain }))

-- where an object stands, it is read
pub record Reads (p n g : ℕ) (body xs : Bytes) : Type 0 where
  pub start : ℕ
  pub end : ℕ
  pub rest : Bytes
  pub reads : frame p xs ≡ ok (record { number = n; gen = g; start = start; body = body }) end rest

pub frame_taken : (p n g : ℕ) (body xs : Bytes) → length xs < turns → ObjectBytes p n g body xs → Reads p n g body xs
unfolding frame framed_body
frame_taken p n g body xs small b =
    let h₁ = head b.begins small in
    let p₁ : ℕ = (token_at p xs).to in
    let x₁ : Bytes = (token_at p xs).rest in
    let c₁ = h₁.shorter in
    let h₂ = head h₁.more (omega arith) in
    let p₂ : ℕ = (token_at (token_at p xs).to (token_at p xs).rest).to in
    let x₂ : Bytes = (token_at (token_at p xs).to (token_at p xs).rest).rest in
    let c₂ = h₂.shorter in
    let h₃ = head h₂.more (omega arith) in
    let c₃ = h₃.shorter in
    let z = lexes_none h₃.more in
    let t₁ : Took (int true (pos n)) (token_at p xs) (token_at p xs).to (token_at p xs).rest = record { kind = ap (λ (x : Lexeme). x.kind) h₁.lex ∙ b.bears; to = refl; left = refl } in
    let t₂ : Took (int true (pos g)) (token_at (token_at p xs).to (token_at p xs).rest) p₂ x₂ = record { kind = ap (λ (x : Lexeme). x.kind) h₂.lex ∙ b.dated; to = refl; left = refl } in
    let t₃ : Took (word (codes "obj")) (token_at p₂ x₂) b.place b.bytes = record { kind = ap (λ (x : Lexeme). x.kind) h₃.lex ∙ b.opens; to = z.0; left = z.1 } in
    let s : skip false p xs ≡ (p, xs) = stays p xs (ap (λ (y : ℕ × Bytes). y.0) h₁.skips ∙ b.stands) in
    let m : ℕ = b.place + length b.lead in
    let y : skip false b.place b.bytes ≡ (b.place + length b.lead, body ++ b.behind) =
    ap (skip false b.place) b.parts ∙ gap_skips b.leads b.place (body ++ b.behind) ∙ solid_stays body b.solid (b.place + length b.lead) b.behind in
    let l₁ = ap length z.1 in
    let l₂ = ap length b.parts ∙ length-append b.lead (body ++ b.behind) in
    let l₃ = length-append body b.behind in
    let r : body_at m (body ++ b.behind) ≡ ok b.object (m + length body) b.behind = streams_are_spelled.complete m (body ++ b.behind) b.object (m + length body) b.behind (omega arith) b.spelled in
    let k = single b.ends (omega arith) in
    let t₄ : Took (word (codes "endobj")) (token_at (m + length body) b.behind) b.end b.rest = record { kind = k.kind ∙ b.closes; to = k.to; left = k.left } in
    let u : up_to m (body ++ b.behind) (m + length body) ≡ body = up_to_taken m (m + length body) body b.behind refl in
    record {
      start = m;
      end = b.end;
      rest = b.rest;
      reads =
          then_is (λ i q ys. then (the_int (token_at q ys)) (λ j p₄ xs₄. then (the_word (codes "obj") (token_at p₄ xs₄)) (λ _ p₃ xs₃. framed_body i j (skip false p₃ xs₃))))
          (number_is p xs s ∙ ap the_int (sym (token_start p xs s)) ∙ int_taken (token_at p xs) n p₁ x₁ t₁)
          ∙ then_is (λ j q ys. then (the_word (codes "obj") (token_at q ys)) (λ _ p₃ xs₃. framed_body n j (skip false p₃ xs₃))) (int_taken (token_at p₁ x₁) g p₂ x₂ t₂)
          ∙ then_is (λ _ q ys. framed_body n g (skip false q ys)) (word_taken (codes "obj") (token_at p₂ x₂) b.place b.bytes t₃)
          ∙ ap (framed_body n g) y
          ∙ then_is (λ o q ys. framed_end n g (m, body ++ b.behind) q ys) r
          ∙ then_is (λ _ q ys. ok (record { number = n; gen = g; start = m; body = up_to m (body ++ b.behind) (m + length body) }) q ys) (word_taken (codes "endobj") (token_at (m + length body) b.behind) b.end b.rest t₄)
          ∙ (λ i. ok (record { number = n; gen = g; start = m; body = u i }) b.end b.rest);
    }
