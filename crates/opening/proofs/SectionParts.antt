-- A whole section, part by part.
use Rattle.std.proofs.Common.{◌≡◌, ℕ, ◌+◌, false, List, drop, codes, sym, refl, ap, ◌∙◌, arith}
use Rattle.faults.specs.declared.fault.Fault.{Fault}
use Rattle.format.specs.Bytes.{Bytes, Got, ok, bad, then}
use Rattle.format.specs.Lines.{placed, exact, exact_line}
use Rattle.format.specs.Objects.{Entries}
use Rattle.format.specs.Sections.{Sub, all_subs, trailer_at, tail, Section, section}
use Rattle.format.specs.Space.{skip}
use Rattle.format.specs.Tokens.{token_at}
use Rattle.objects.proofs.ShiftedTokens.{skip_later}
use Rattle.opening.proofs.Answered.{then_cut}

-- behind the trailer's dictionary: the place of its `<<`, and its entries
abbrev closing : (off : ℕ) → List Sub → ℕ × Entries → ℕ → Bytes → Got Section
closing off ss t p xs =
    let s = skip false p xs in
    then (tail off s.0 s.1) (λ _ q ys. ok (record { offset = off; end = q; subsections = ss; marked = t.0; trailer = t.1 }) q ys)

abbrev in_trailer : (off : ℕ) → List Sub → ℕ → Bytes → Got Section
in_trailer off ss p xs = then (trailer_at (token_at p xs)) (closing off ss)

-- behind the subsections
abbrev behind_subs : (off : ℕ) → List Sub → ℕ → Bytes → Got Section
behind_subs off ss p xs = then (placed p xs (exact (codes "trailer") p xs)) (λ _ q ys. in_trailer off ss q ys)

abbrev behind_line : (off : ℕ) → ℕ → Bytes → Got Section
behind_line off p xs = then (all_subs p xs) (behind_subs off)

parts : (off : ℕ) (xs : Bytes) → section off xs ≡ then (placed off xs (exact_line (codes "xref") off xs)) (λ _ p ys. behind_line off p ys)
unfolding section
parts off xs = refl

-- The section that starts where the window src does, at the place base.
module _ (base : ℕ) (src : Bytes) where
  first_line : {z : Got Unit} → placed (base + 0) (drop 0 src) (exact_line (codes "xref") (base + 0) (drop 0 src)) ≡ z → placed base src (exact_line (codes "xref") base src) ≡ z
  first_line e = let s : base + 0 ≡ base = omega arith in ap (λ b. placed b src (exact_line (codes "xref") b src)) (sym s) ∙ e

  pub line_bad : (f : Fault) → placed (base + 0) (drop 0 src) (exact_line (codes "xref") (base + 0) (drop 0 src)) ≡ bad f → section base src ≡ bad f
  line_bad f e = parts base src ∙ then_cut _ _ (first_line e)

  module _ (p : ℕ) (line : placed (base + 0) (drop 0 src) (exact_line (codes "xref") (base + 0) (drop 0 src)) ≡ ok tt (base + p) (drop p src)) where
    on_line : section base src ≡ behind_line base (base + p) (drop p src)
    on_line = parts base src ∙ ap (λ g. then g (λ _ q ys. behind_line base q ys)) (first_line line)

    pub subs_bad : (f : Fault) → all_subs (base + p) (drop p src) ≡ bad f → section base src ≡ bad f
    subs_bad f e = on_line ∙ then_cut _ _ e

    module _ (ss : List Sub) (q : ℕ) (listing : all_subs (base + p) (drop p src) ≡ ok ss (base + q) (drop q src)) where
      on_subs : section base src ≡ behind_subs base ss (base + q) (drop q src)
      on_subs = on_line ∙ ap (λ g. then g (behind_subs base)) listing

      pub word_bad : (f : Fault) → placed (base + q) (drop q src) (exact (codes "trailer") (base + q) (drop q src)) ≡ bad f → section base src ≡ bad f
      word_bad f e = on_subs ∙ then_cut _ _ e

      module _ (w : ℕ) (word : placed (base + q) (drop q src) (exact (codes "trailer") (base + q) (drop q src)) ≡ ok tt (base + w) (drop w src)) where
        on_word : section base src ≡ in_trailer base ss (base + w) (drop w src)
        on_word = on_subs ∙ ap (λ g. then g (λ _ r ys. in_trailer base ss r ys)) word

        pub trailer_bad : (f : Fault) → trailer_at (token_at (base + w) (drop w src)) ≡ bad f → section base src ≡ bad f
        trailer_bad f e = on_word ∙ then_cut _ _ e

        module _ (m d t : ℕ) (es : Entries) (dictionary : trailer_at (token_at (base + w) (drop w src)) ≡ ok (base + m, es) (base + d) (drop d src)) (space : skip false d (drop d src) ≡ (t, drop t src)) where
          spaced : skip false (base + d) (drop d src) ≡ (base + t, drop t src)
          spaced = skip_later base false d (drop d src) ∙ ap (λ (s : ℕ × Bytes). (base + s.0, s.1)) space

          on_trailer : section base src ≡ then (tail base (base + t) (drop t src)) (λ _ q ys. ok (record { offset = base; end = q; subsections = ss; marked = base + m; trailer = es }) q ys)
          on_trailer =
              on_word
              ∙ ap (λ g. then g (closing base ss)) dictionary
              ∙ ap (λ (s : ℕ × Bytes). then (tail base s.0 s.1) (λ _ q ys. ok (record { offset = base; end = q; subsections = ss; marked = base + m; trailer = es }) q ys)) spaced

          pub tail_bad : (f : Fault) → tail base (base + t) (drop t src) ≡ bad f → section base src ≡ bad f
          tail_bad f e = on_trailer ∙ then_cut _ _ e

          pub whole : (e : ℕ) → tail base (base + t) (drop t src) ≡ ok tt (base + e) (drop e src) → section base src ≡ ok (record { offset = base; end = base + e; subsections = ss; marked = base + m; trailer = es }) (base + e) (drop e src)
          whole e is = on_trailer ∙ ap (λ g. then g (λ _ q ys. ok (record { offset = base; end = q; subsections = ss; marked = base + m; trailer = es }) q ys)) is
