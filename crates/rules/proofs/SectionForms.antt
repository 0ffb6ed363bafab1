-- A section: what is read is what the bytes are.
use Rattle.std.proofs.Common.{◌≡◌, ℕ, ◌+◌, ◌<◌, ◌≤◌, false, eqb, List, [], ◌∷◌, ◌++◌, length, codes, sym, refl, ap, ◌∙◌, subst, append_assoc, arith, length-append}
use Rattle.std.proofs.lemmas.Bool.{eqb-true}
use Rattle.format.specs.Bytes.{Bytes, Got, ok, then, is_white, is_digit}
use Rattle.format.specs.Lines.{Piece, took, placed, exact, exact_line}
use Rattle.format.specs.Objects.{Entries}
use Rattle.format.specs.Sections.{Sub, begins_digit, all_subs, trailer_at, tail, Section, section}
use Rattle.format.specs.Space.{skip}
use Rattle.format.specs.Strings.{turns}
use Rattle.format.specs.Tokens.{token_at}
use Rattle.locality.proofs.Cases.{cases}
use Rattle.locality.proofs.Tests.{clash}
use Rattle.sections.proofs.Ends as theirs
use Rattle.sections.proofs.LinesLocal as lines
use Rattle.sections.proofs.Local.{then_ok, placed_ok}
use Rattle.sections.proofs.SectionLocal.{TailShape, tail_shape}
use Rattle.sections.proofs.Tails.{tail_on, tail_length, tail_taken}
use Rattle.sections.proofs.Tests as tests
use Rattle.sections.specs.Reading.{begins_lf}
use Rattle.rules.specs.Forms.{SubsBytes, SectionBytes}
use Rattle.grammar.specs.Gaps.{Gap}
use Rattle.rules.specs.Whole.{Ending, lf, cr, crlf, ending, Tail}
use Rattle.rules.proofs.EntryForms.{Shape}
use Rattle.grammar.proofs.Gaps.{gap_skips, skip_gap}
use Rattle.rules.proofs.SubForms.{ending_of, ending_bytes, all_subs_shape, all_subs_taken, subs_begin}
use Rattle.rules.proofs.TrailerForms.{TrailerShape, trailer_shape, trailer_taken}
use Rattle.rules.proofs.Wholes.{end_of, end_bytes_fact, spells_of, spelt_of}

-- a last line that ends in CR alone has no LF behind it
abbrev pub Whole : Ending → Bytes → Type 0
Whole e rest = e ≡ cr → (more : Bytes) → rest ≡ 10 ∷ more → ⊥

whole_of : (e : theirs.End) (rest : Bytes) → theirs.Closes e rest → Whole (ending_of e) rest
unfolding ending_of begins_lf
whole_of theirs.lf rest c q more e = clash (cc)
whole_of theirs.cr rest c q more e = tests.clash (ap begins_lf e) c
whole_of theirs.crlf rest c q more e = clash (cc)

closes_of : (e : Ending) (rest : Bytes) → Whole e rest → theirs.Closes (end_of e) rest
unfolding end_of begins_lf
closes_of lf rest w = tt
closes_of cr rest w = no_lf rest (w refl)
  where
    no_lf : (ys : Bytes) → ((more : Bytes) → ys ≡ 10 ∷ more → ⊥) → begins_lf ys ≡ false
    no_lf [] g = refl
    no_lf (y ∷ ys) g =
        cases (eqb y 10)
        (λ a. let q : y ≡ 10 = eqb-true y 10 a in absurd (g ys (λ i. q i ∷ ys)))
        (λ a. a)
closes_of crlf rest w = tt

-- the parts of a section
abbrev sec₅ : ℕ → List Sub → (ℕ × Entries) → (ℕ × Bytes) → Got Section
sec₅ off ss t s =
    then (tail off s.0 s.1) (λ _ p₅ xs₅. ok (record { offset = off; end = p₅; subsections = ss; marked = t.0; trailer = t.1 }) p₅ xs₅)

abbrev sec₄ : ℕ → List Sub → (ℕ × Entries) → ℕ → Bytes → Got Section
sec₄ off ss t p₄ xs₄ = sec₅ off ss t (skip false p₄ xs₄)

abbrev sec₃ : ℕ → List Sub → ℕ → Bytes → Got Section
sec₃ off ss p₃ xs₃ = then (trailer_at (token_at p₃ xs₃)) (λ t p₄ xs₄. sec₄ off ss t p₄ xs₄)

abbrev sec₂ : ℕ → List Sub → ℕ → Bytes → Got Section
sec₂ off ss p₂ xs₂ = then (placed p₂ xs₂ (exact (codes "trailer") p₂ xs₂)) (λ _ p₃ xs₃. sec₃ off ss p₃ xs₃)

abbrev sec₁ : ℕ → ℕ → Bytes → Got Section
sec₁ off p₁ xs₁ = then (all_subs p₁ xs₁) (λ ss p₂ xs₂. sec₂ off ss p₂ xs₂)

-- a section that was taken
pub record SectionShape (off : ℕ) (xs : Bytes) (s : Section) (e : ℕ) (rest : Bytes) : Type 0 where
  pub own : Bytes
  pub form : SectionBytes s own
  pub parts : xs ≡ own ++ rest
  pub to : e ≡ off + length own
  pub whole : Whole form.tail.mark rest
  pub offset : s.offset ≡ off
  pub end : s.end ≡ e

-- `s` is no white space, and begins no comment
s_stays : (p : ℕ) (ys : Bytes) → skip false p (115 ∷ ys) ≡ (p, 115 ∷ ys)
unfolding skip is_white
s_stays p ys = refl

-- the white space and comments before a tail
record GapShape (p : ℕ) (xs : Bytes) (ys : Bytes) : Type 0 where
  gap : Bytes
  is : Gap gap
  parts : xs ≡ gap ++ (115 ∷ ys)
  to : (skip false p xs).0 ≡ p + length gap

gap_shape : (p : ℕ) (xs ys : Bytes) → (skip false p xs).1 ≡ 115 ∷ ys → GapShape p xs ys
gap_shape p xs ys e =
    let b = skip_gap p xs 115 ys e in
    record {
      gap = b.gap;
      is = b.is;
      parts = b.parts;
      to = ap (λ (s : ℕ × Bytes). s.0) (ap (skip false p) b.parts ∙ gap_skips b.is p (115 ∷ ys) ∙ s_stays (p + length b.gap) ys);
    }

tail_of : {off p : ℕ} {xs : Bytes} {q : ℕ} {rest : Bytes} → (v : TailShape off p xs q rest) →
    Tail off (codes "startxref" ++ (ending (ending_of v.a) ++ (v.ds ++ (ending (ending_of v.b) ++ (codes "%%EOF" ++ ending (ending_of v.c))))))
tail_of {off} v = record { digits = v.ds; spelt = spelt_of off v.ds v.spells; word = ending_of v.a; number = ending_of v.b; mark = ending_of v.c; is = refl }

joined : (off : ℕ) (xs : Bytes) (ss : List Sub) (m : ℕ) (es : Entries) (p₁ : ℕ) (xs₁ : Bytes) (p₂ : ℕ) (xs₂ : Bytes) (p₃ : ℕ) (xs₃ : Bytes) (p₄ : ℕ) (xs₄ : Bytes) (p₅ : ℕ) (xs₅ : Bytes) (e : ℕ) (rest : Bytes) →
    p₅ ≡ e → xs₅ ≡ rest → lines.LineShape (codes "xref") off xs p₁ xs₁ → Shape (λ own. SubsBytes 0 ss own × (1 ≤ length ss)) p₁ xs₁ p₂ xs₂ → (xs₂ ≡ codes "trailer" ++ xs₃) × (p₃ ≡ p₂ + 7) →
    TrailerShape p₃ xs₃ m es p₄ xs₄ → TailShape off (skip false p₄ xs₄).0 (skip false p₄ xs₄).1 p₅ xs₅ →
    SectionShape off xs (record { offset = off; end = p₅; subsections = ss; marked = m; trailer = es }) e rest
unfolding tail_of
joined off xs ss m es p₁ xs₁ p₂ xs₂ p₃ xs₃ p₄ xs₄ p₅ xs₅ e rest z r a b c d v =
    let o : Ending = ending_of a.end in
    let ob = ending_bytes a.end in
    let va = ending_bytes v.a in
    let vb = ending_bytes v.b in
    let vc = ending_bytes v.c in
    let more : Bytes = codes "tartxref" ++ (theirs.end_bytes v.a ++ (v.ds ++ (theirs.end_bytes v.b ++ (codes "%%EOF" ++ (theirs.end_bytes v.c ++ xs₅))))) in
    let g = gap_shape p₄ xs₄ more v.parts in
    let last : Bytes = codes "startxref" ++ (ending (ending_of v.a) ++ (v.ds ++ (ending (ending_of v.b) ++ (codes "%%EOF" ++ ending (ending_of v.c))))) in
    let own : Bytes = codes "xref" ++ (ending o ++ (b.own ++ (codes "trailer" ++ (d.lead ++ (d.dictionary ++ (g.gap ++ last)))))) in
    let parts : xs ≡ codes "xref" ++ (ending o ++ (b.own ++ (codes "trailer" ++ (d.lead ++ (d.dictionary ++ (g.gap ++ (codes "startxref" ++ (ending (ending_of v.a) ++ (v.ds ++ (ending (ending_of v.b) ++ (codes "%%EOF" ++ (ending (ending_of v.c) ++ rest)))))))))))) =
    a.parts
    ∙ (λ i. codes "xref" ++ (ob i ++ b.parts i))
    ∙ ap (λ ys. codes "xref" ++ (ending o ++ (b.own ++ ys)))
    (c.0 ∙ ap (λ ys. codes "trailer" ++ ys) (d.parts ∙ ap (λ ys. d.lead ++ (d.dictionary ++ ys)) (g.parts ∙ (λ i. g.gap ++ (codes "startxref" ++ (va i ++ (v.ds ++ (vb i ++ (codes "%%EOF" ++ (vc i ++ r i)))))))))) in
    let a₁ = a.to in
    let b₁ = b.to in
    let c₁ = c.1 in
    let d₁ = d.starts in
    let d₂ = d.to in
    let g₁ = g.to in
    let v₁ = v.to in
    let lo = ap length ob in
    let la = ap length va in
    let lb = ap length vb in
    let lc = ap length vc in
    let long : length own ≡ 4 + (length (ending o) + (length b.own + (7 + (length d.lead + (length d.dictionary + (length g.gap + (9 + (length (ending (ending_of v.a)) + (length v.ds + (length (ending (ending_of v.b)) + (5 + length (ending (ending_of v.c))))))))))))) =
    simp length-append (omega arith) in
    let lead : length (codes "xref" ++ (ending o ++ (b.own ++ (codes "trailer" ++ d.lead)))) ≡ 4 + (length (ending o) + (length b.own + (7 + length d.lead))) = simp length-append (omega arith) in
    record {
      own = own;
      form = record {
        line = o;
        table = b.own;
        lead = d.lead;
        dictionary = d.dictionary;
        gap = g.gap;
        last = last;
        some = b.is.1;
        subsections = b.is.0;
        leads = d.leads;
        marked = omega arith;
        trailer = d.is;
        follows = g.is;
        tail = tail_of v;
        is = refl;
      };
      parts = parts ∙ simp append_assoc;
      to = omega arith;
      whole = whole_of v.c rest (subst (λ (ys : Bytes). theirs.Closes v.c ys) r v.closed);
      offset = refl;
      end = z;
    }

pub section_shape : (off : ℕ) (xs : Bytes) (s : Section) (e : ℕ) (rest : Bytes) → length xs < turns → section off xs ≡ ok s e rest → SectionShape off xs s e rest
unfolding section
section_shape off xs s e rest small f =
    then_ok (placed off xs (exact_line (codes "xref") off xs)) (λ _ p₁ xs₁. sec₁ off p₁ xs₁) f
    (λ u p₁ xs₁ e₁ f₁.
    then_ok (all_subs p₁ xs₁) (λ ss p₂ xs₂. sec₂ off ss p₂ xs₂) f₁
    (λ ss p₂ xs₂ e₂ f₂.
    then_ok (placed p₂ xs₂ (exact (codes "trailer") p₂ xs₂)) (λ _ p₃ xs₃. sec₃ off ss p₃ xs₃) f₂
    (λ v p₃ xs₃ e₃ f₃.
    then_ok (trailer_at (token_at p₃ xs₃)) (λ t p₄ xs₄. sec₄ off ss t p₄ xs₄) f₃
    (λ t p₄ xs₄ e₄ f₄.
    then_ok (tail off (skip false p₄ xs₄).0 (skip false p₄ xs₄).1)
    (λ _ p₅ xs₅. ok (record { offset = off; end = p₅; subsections = ss; marked = t.0; trailer = t.1 }) p₅ xs₅) f₄
    (λ w p₅ xs₅ e₅ f₅.
    let q : ◌≡◌ {A = Section} (record { offset = off; end = p₅; subsections = ss; marked = t.0; trailer = t.1 }) s = cc in
    let r : xs₅ ≡ rest = cc in
    let z : p₅ ≡ e = cc in
    subst (λ (x : Section). SectionShape off xs x e rest) q
    (let a = lines.exact_line_shape (codes "xref") off xs (placed_ok off xs (exact_line (codes "xref") off xs) e₁) in
    let b = all_subs_shape p₁ xs₁ ss p₂ xs₂ e₂ in
    let c = lines.exact_shape (codes "trailer") p₂ xs₂ (placed_ok p₂ xs₂ (exact (codes "trailer") p₂ xs₂) e₃) in
    let n₁ = ap length a.parts ∙ length-append (codes "xref") (theirs.end_bytes a.end ++ xs₁) in
    let n₂ = length-append (theirs.end_bytes a.end) xs₁ in
    let n₃ = ap length b.parts ∙ length-append b.own xs₂ in
    let n₄ = ap length c.0 ∙ length-append (codes "trailer") xs₃ in
    joined off xs ss t.0 t.1 p₁ xs₁ p₂ xs₂ p₃ xs₃ p₄ xs₄ p₅ xs₅ e rest z r a b c
    (trailer_shape p₃ xs₃ t.0 t.1 p₄ xs₄ (omega arith) e₄)
    (tail_shape off (skip false p₄ xs₄).0 (skip false p₄ xs₄).1 e₅)))))))

-- one reader after another that reads
pub then_is : {A B : Type 0} {z : Got A} {a : A} {p : ℕ} {ys : Bytes} (k : A → ℕ → Bytes → Got B) → z ≡ ok a p ys → then z k ≡ k a p ys
then_is k e = ap (λ w. then w k) e

placed_is : {A : Type 0} (p : ℕ) (xs : Bytes) {z : Piece A} {a : A} {q : ℕ} {ys : Bytes} → z ≡ took a q ys → placed p xs z ≡ ok a q ys
unfolding placed
placed_is p xs e = ap (placed p xs) e

trailer_no_digit : (ys : Bytes) → begins_digit (codes "trailer" ++ ys) ≡ false
unfolding begins_digit is_digit
trailer_no_digit ys = refl

-- white space and comments before a tail are skipped
gap_taken : {g : Bytes} → Gap g → (p : ℕ) (ys : Bytes) → skip false p (g ++ (115 ∷ ys)) ≡ (p + length g, 115 ∷ ys)
gap_taken {g} h p ys = gap_skips h p (115 ∷ ys) ∙ s_stays (p + length g) ys

module _ (s : Section) (own : Bytes) (b : SectionBytes s own) where
  -- its bytes, by the names that the lemmas on readers have
  bytes_of : (rest : Bytes) →
      own ++ rest
      ≡ codes "xref" ++ (theirs.end_bytes (end_of b.line) ++ (b.table ++ (codes "trailer" ++ (b.lead ++ (b.dictionary ++ (b.gap ++ tail_on (end_of b.tail.word) b.tail.digits (end_of b.tail.number) (end_of b.tail.mark) rest))))))
  bytes_of rest =
      let t = b.tail in
      let oe = end_bytes_fact b.line in
      let ta = end_bytes_fact t.word in
      let tb = end_bytes_fact t.number in
      let tc = end_bytes_fact t.mark in
      ap (λ zs. zs ++ rest)
      (b.is ∙ ap (λ zs. codes "xref" ++ (ending b.line ++ (b.table ++ (codes "trailer" ++ (b.lead ++ (b.dictionary ++ (b.gap ++ zs))))))) t.is)
      ∙ simp append_assoc
      (λ i. codes "xref" ++ (sym oe i ++ (b.table ++ (codes "trailer" ++ (b.lead ++ (b.dictionary ++ (b.gap ++ (codes "startxref" ++ (sym ta i ++ (t.digits ++ (sym tb i ++ (codes "%%EOF" ++ (sym tc i ++ rest)))))))))))))

  marks : s.marked ≡ s.offset + (4 + length (theirs.end_bytes (end_of b.line))) + length b.table + 7 + length b.lead
  marks =
      let lo = ap length (end_bytes_fact b.line) in
      let l : length (codes "xref" ++ (ending b.line ++ (b.table ++ (codes "trailer" ++ b.lead)))) ≡ 4 + (length (ending b.line) + (length b.table + (7 + length b.lead))) = simp length-append (omega arith) in
      let m = b.marked in
      omega arith

  ends : s.end ≡ s.offset + length own →
      s.marked + length b.dictionary + length b.gap + tail_length (end_of b.tail.word) b.tail.digits (end_of b.tail.number) (end_of b.tail.mark) ≡ s.end
  ends en =
      let t = b.tail in
      let lo = ap length (end_bytes_fact b.line) in
      let la = ap length (end_bytes_fact t.word) in
      let lb = ap length (end_bytes_fact t.number) in
      let lc = ap length (end_bytes_fact t.mark) in
      let m = marks in
      let l : length own ≡ 4 + (length (ending b.line) + (length b.table + (7 + (length b.lead + (length b.dictionary + (length b.gap + (9 + (length (ending t.word) + (length t.digits + (length (ending t.number) + (5 + length (ending t.mark)))))))))))) =
      ap length (b.is ∙ ap (λ zs. codes "xref" ++ (ending b.line ++ (b.table ++ (codes "trailer" ++ (b.lead ++ (b.dictionary ++ (b.gap ++ zs))))))) t.is) ∙ simp length-append (omega arith) in
      omega arith

-- a section is read where it stands
pub section_taken : (s : Section) (own rest : Bytes) (b : SectionBytes s own) → s.end ≡ s.offset + length own → length s.subsections < turns → length b.dictionary < turns → Whole b.tail.mark rest →
    section s.offset (own ++ rest) ≡ ok s s.end rest
unfolding section
section_taken s own rest b en few small w =
    let off : ℕ = s.offset in
    let t = b.tail in
    let x₅ : Bytes = tail_on (end_of t.word) t.digits (end_of t.number) (end_of t.mark) rest in
    let x₄ : Bytes = b.gap ++ x₅ in
    let x₃ : Bytes = b.lead ++ (b.dictionary ++ x₄) in
    let x₂ : Bytes = codes "trailer" ++ x₃ in
    let x₁ : Bytes = b.table ++ x₂ in
    let p₁ : ℕ = off + (4 + length (theirs.end_bytes (end_of b.line))) in
    let p₂ : ℕ = p₁ + length b.table in
    let p₃ : ℕ = p₂ + 7 in
    let p₄ : ℕ = s.marked + length b.dictionary in
    let p₅ : ℕ = p₄ + length b.gap in
    let whole : own ++ rest ≡ codes "xref" ++ (theirs.end_bytes (end_of b.line) ++ x₁) = bytes_of s own b rest in
    let mk : s.marked ≡ p₃ + length b.lead = marks s own b in
    let to : p₅ + tail_length (end_of t.word) t.digits (end_of t.number) (end_of t.mark) ≡ s.end = ends s own b en in
    ap (section off) whole
    ∙ then_is (λ _ q ys. sec₁ off q ys)
    (placed_is off (codes "xref" ++ (theirs.end_bytes (end_of b.line) ++ x₁))
    (theirs.exact_line_taken (codes "xref") (end_of b.line) off x₁ (theirs.closes (end_of b.line) x₁ (lines.digit_no_lf x₁ (subs_begin s.subsections 0 b.table x₂ b.some b.subsections)))))
    ∙ then_is (λ ss q ys. sec₂ off ss q ys) (all_subs_taken s.subsections p₁ b.table x₂ b.some few b.subsections (trailer_no_digit x₃))
    ∙ then_is (λ _ q ys. sec₃ off s.subsections q ys) (placed_is p₂ x₂ (theirs.exact_taken (codes "trailer") p₂ x₃))
    ∙ then_is (λ u q ys. sec₄ off s.subsections u q ys) (trailer_taken p₃ b.lead s.marked s.trailer b.dictionary x₄ small b.leads b.trailer mk)
    ∙ ap (sec₅ off s.subsections (s.marked, s.trailer)) (gap_taken b.follows p₄ (codes "tartxref" ++ (theirs.end_bytes (end_of t.word) ++ (t.digits ++ (theirs.end_bytes (end_of t.number) ++ (codes "%%EOF" ++ (theirs.end_bytes (end_of t.mark) ++ rest)))))))
    ∙ then_is (λ _ q ys. ok (record { offset = off; end = q; subsections = s.subsections; marked = s.marked; trailer = s.trailer }) q ys)
    (tail_taken off p₅ (end_of t.word) t.digits (end_of t.number) (end_of t.mark) rest (spells_of off t.digits t.spelt) (closes_of t.mark rest w))
    ∙ (λ i. ok (record { offset = off; end = to i; subsections = s.subsections; marked = s.marked; trailer = s.trailer }) (to i) rest)
