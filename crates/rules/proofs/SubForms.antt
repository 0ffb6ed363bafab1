-- The subsections of a section: what is read is what the bytes are.
use Rattle.std.proofs.Common.{◌≡◌, ℕ, zero, suc, ◌+◌, ◌<◌, ◌≤◌, true, false, ◌&&◌, leb, List, [], ◌∷◌, ◌++◌, length, sym, refl, ap, ◌∙◌, subst, append_assoc, arith, length-append}
use Rattle.std.proofs.lemmas.Bool.{and_parts, and_from, leb-true, le-leb}
use Rattle.faults.specs.declared.reason.Reason.TheVariants.{BadLine}
use Rattle.format.specs.Bytes.{Bytes, Got, ok, bad, then, is_digit}
use Rattle.format.specs.Failures.{section_fault}
use Rattle.format.specs.Lines.{Piece, took, next, placed, exact, eol, digits, sub_line}
use Rattle.format.specs.Sections.{slots, Sub, sub, begins_digit, subs, all_subs}
use Rattle.format.specs.Strings.{turns}
use Rattle.locality.proofs.Cases.{cases}
use Rattle.sections.proofs.Digits.{took_at, spelt_begin, digits_taken}
use Rattle.sections.proofs.Ends as theirs
use Rattle.sections.proofs.LinesLocal.{exact_shape, eol_shape, digits_shape, digit_no_lf}
use Rattle.sections.proofs.Local.{not_bad, next_took, then_ok, placed_ok}
use Rattle.sections.proofs.Tails.{ok_at}
use Rattle.rules.specs.Forms.{SubBytes, SubsBytes}
use Rattle.rules.specs.Whole.{Ending, lf, cr, crlf, ending, Spelt}
use Rattle.rules.proofs.EntryForms.{Shape, space_taken, slots_shape, slots_taken, rows_begin}
use Rattle.rules.proofs.Wholes.{end_of, end_bytes_fact, spells_of, spelt_of}

-- an end of line, by the name that the rules have for it
unfoldable pub ending_of : theirs.End → Ending
ending_of theirs.lf = lf
ending_of theirs.cr = cr
ending_of theirs.crlf = crlf

pub ending_bytes : (e : theirs.End) → theirs.end_bytes e ≡ ending (ending_of e)
unfolding ending_of
ending_bytes theirs.lf = refl
ending_bytes theirs.cr = refl
ending_bytes theirs.crlf = refl

-- a subsection's line that was taken
record LineShape (n c p : ℕ) (xs : Bytes) (q : ℕ) (rest : Bytes) : Type 0 where
  first : Bytes
  count : Bytes
  line : Ending
  from : Spelt n first
  many : Spelt c count
  parts : xs ≡ first ++ (32 ∷ (count ++ (ending line ++ rest)))
  to : q ≡ p + length (first ++ (32 ∷ (count ++ ending line)))

abbrev sub_line₃ : ℕ → ℕ → ℕ → Bytes → Piece (ℕ × ℕ)
sub_line₃ n c p xs = next (eol p xs) (λ _ q ys. took (n, c) q ys)

abbrev sub_line₂ : ℕ → ℕ → Bytes → Piece (ℕ × ℕ)
sub_line₂ n p xs = next (digits p xs) (λ c q ys. sub_line₃ n c q ys)

abbrev sub_line₁ : ℕ → ℕ → Bytes → Piece (ℕ × ℕ)
sub_line₁ n p xs = next (exact (32 ∷ []) p xs) (λ _ q ys. sub_line₂ n q ys)

sub_line_shape : (p : ℕ) (xs : Bytes) {h : ℕ × ℕ} {q : ℕ} {rest : Bytes} → sub_line p xs ≡ took h q rest → LineShape h.0 h.1 p xs q rest
unfolding sub_line
sub_line_shape p xs {h} {q} {rest} f =
    next_took (digits p xs) (λ n r ys. sub_line₁ n r ys) f
    (λ n p₁ xs₁ e₁ f₁.
    next_took (exact (32 ∷ []) p₁ xs₁) (λ _ r ys. sub_line₂ n r ys) f₁
    (λ u₂ p₂ xs₂ e₂ f₂.
    next_took (digits p₂ xs₂) (λ c r ys. sub_line₃ n c r ys) f₂
    (λ c p₃ xs₃ e₃ f₃.
    next_took (eol p₃ xs₃) (λ _ r ys. took (n, c) r ys) f₃
    (λ u₄ p₄ xs₄ e₄ f₄.
    let w : ◌≡◌ {A = ℕ × ℕ} (n, c) h = cc in
    let r : xs₄ ≡ rest = cc in
    let z : p₄ ≡ q = cc in
    let a = digits_shape p xs e₁ in
    let b = exact_shape (32 ∷ []) p₁ xs₁ e₂ in
    let d = digits_shape p₂ xs₂ e₃ in
    let g = eol_shape p₃ xs₃ e₄ in
    let a₁ = a.to in
    let b₁ = b.1 in
    let d₁ = d.to in
    let g₁ = g.to in
    let m = ending_bytes g.end in
    let l₁ = length-append a.ds (32 ∷ (d.ds ++ ending (ending_of g.end))) in
    let l₂ = length-append d.ds (ending (ending_of g.end)) in
    let l₃ = ap length m in
    subst (λ (x : ℕ × ℕ). LineShape x.0 x.1 p xs q rest) w
    (record {
      first = a.ds;
      count = d.ds;
      line = ending_of g.end;
      from = spelt_of n a.ds a.spells;
      many = spelt_of c d.ds d.spells;
      parts = a.parts ∙ ap (λ ys. a.ds ++ ys) (b.0 ∙ ap {B = Bytes} (λ ys. 32 ∷ ys) (d.parts ∙ ap (λ ys. d.ds ++ ys) (g.parts ∙ (λ i. m i ++ r i))));
      to = omega arith;
    })))))

space_no_digit : (ys : Bytes) → begins_digit (32 ∷ ys) ≡ false
unfolding begins_digit is_digit
space_no_digit ys = refl

sub_line_taken : (n c : ℕ) (first count : Bytes) (line : Ending) (p : ℕ) (ys : Bytes) → Spelt n first → Spelt c count → theirs.Closes (end_of line) ys →
    sub_line p (first ++ (32 ∷ (count ++ (ending line ++ ys)))) ≡ took (n, c) (p + (length first + (1 + (length count + length (ending line))))) ys
unfolding sub_line
sub_line_taken n c first count line p ys a b h =
    let m = end_bytes_fact line in
    let l = ap length m in
    rw (digits_taken p n first (32 ∷ (count ++ (ending line ++ ys))) (spells_of n first a) (space_no_digit (count ++ (ending line ++ ys))))
    (rw (space_taken (p + length first) (count ++ (ending line ++ ys)))
    (rw (← m)
    (rw (digits_taken (suc (p + length first)) c count (theirs.end_bytes (end_of line) ++ ys) (spells_of c count b) (theirs.end_begins (end_of line) ys))
    (rw (theirs.eol_taken (end_of line) (suc (p + length first) + length count) ys h) (took_at (omega arith))))))

unfoldable behind_line : ℕ → ℕ → (ℕ × ℕ) → ℕ → Bytes → Got Sub
behind_line low p h p₁ xs₁ =
    elim (leb low h.0 && leb 1 h.1) [
      | true ↦ then (slots h.1 h.0 p₁ xs₁) (λ ss p₂ xs₂. ok (record { first = h.0; count = h.1; rows = ss }) p₂ xs₂)
      | false ↦ bad (section_fault BadLine p)
    ]

-- a subsection that was taken
sub_shape : (low p : ℕ) (xs : Bytes) (s : Sub) (q : ℕ) (rest : Bytes) → sub low p xs ≡ ok s q rest → (low ≤ s.first) × Shape (SubBytes s) p xs q rest
unfolding sub behind_line
sub_shape low p xs s q rest f =
    then_ok (placed p xs (sub_line p xs)) (behind_line low p) f
    (λ h p₁ xs₁ e₁ f₁.
    cases (leb low h.0 && leb 1 h.1)
    (λ a.
    then_ok (slots h.1 h.0 p₁ xs₁) (λ ss p₂ xs₂. ok (record { first = h.0; count = h.1; rows = ss }) p₂ xs₂) (rw (a, behind_line) at f₁)
    (λ ss p₂ xs₂ e₂ f₂.
    let w : ◌≡◌ {A = Sub} (record { first = h.0; count = h.1; rows = ss }) s = cc in
    let r : xs₂ ≡ rest = cc in
    let z : p₂ ≡ q = cc in
    let b = and_parts (leb low h.0) (leb 1 h.1) a in
    let l = sub_line_shape p xs (placed_ok p xs (sub_line p xs) e₁) in
    let t = slots_shape h.1 h.0 p₁ xs₁ ss p₂ xs₂ e₂ in
    let l₁ = l.to in
    let t₁ = t.to in
    let n₁ = length-append l.first (32 ∷ (l.count ++ ending l.line)) in
    let n₂ = length-append l.count (ending l.line) in
    let n₃ = length-append l.first (32 ∷ (l.count ++ (ending l.line ++ t.own))) in
    let n₄ = length-append l.count (ending l.line ++ t.own) in
    let n₅ = length-append (ending l.line) t.own in
    subst (λ (x : Sub). (low ≤ x.first) × Shape (SubBytes x) p xs q rest) w (
      leb-true low h.0 b.0,
      record {
        own = l.first ++ (32 ∷ (l.count ++ (ending l.line ++ t.own)));
        is = record {
          first = l.first;
          count = l.count;
          line = l.line;
          entries = t.own;
          from = l.from;
          many = l.many;
          some = leb-true 1 h.1 b.1;
          all = t.is.1;
          lists = t.is.0;
          is = refl;
        };
        parts = l.parts ∙ ap (λ ys. l.first ++ (32 ∷ (l.count ++ (ending l.line ++ ys)))) (t.parts ∙ ap (λ ys. t.own ++ ys) r) ∙ simp append_assoc;
        to = omega arith;
      },
    )))
    (λ a. not_bad (rw (a, behind_line) at f₁)))

-- a subsection is taken where it stands
sub_taken : (low : ℕ) (s : Sub) (own : Bytes) (p : ℕ) (ys : Bytes) → low ≤ s.first → SubBytes s own → sub low p (own ++ ys) ≡ ok s (p + length own) ys
unfolding sub placed
sub_taken low s own p ys h b =
    let e : Bytes = b.entries in
    let parts : own ++ ys ≡ b.first ++ (32 ∷ (b.count ++ (ending b.line ++ (e ++ ys)))) = ap (λ zs. zs ++ ys) b.is ∙ simp append_assoc in
    let n₃ = length-append b.first (32 ∷ (b.count ++ (ending b.line ++ e))) in
    let n₄ = length-append b.count (ending b.line ++ e) in
    let n₅ = length-append (ending b.line) e in
    let l : length own ≡ length b.first + (1 + (length b.count + (length (ending b.line) + length e))) = ap length b.is ∙ omega arith in
    let k = b.all in
    let some = b.some in
    let c : theirs.Closes (end_of b.line) (e ++ ys) =
    theirs.closes (end_of b.line) (e ++ ys) (digit_no_lf (e ++ ys) (rows_begin s.rows s.first e ys (omega arith) b.lists)) in
    let m : ℕ = p + (length b.first + (1 + (length b.count + length (ending b.line)))) in
    let t : slots s.count s.first m (e ++ ys) ≡ ok s.rows (m + length e) ys = ap (λ (x : ℕ). slots x s.first m (e ++ ys)) (sym k) ∙ slots_taken s.rows s.first m e ys b.lists in
    rw parts
    (rw (sub_line_taken s.first s.count b.first b.count b.line p (e ++ ys) b.from b.many c)
    (rw (and_from (leb low s.first) (leb 1 s.count) (le-leb low s.first h) (le-leb 1 s.count some), then)
    (rw t (ok_at (omega arith)))))

sub_begin : (s : Sub) (own ys : Bytes) → SubBytes s own → begins_digit (own ++ ys) ≡ true
sub_begin s own ys b =
    ap begins_digit (ap (λ zs. zs ++ ys) b.is ∙ append_assoc b.first (32 ∷ (b.count ++ (ending b.line ++ b.entries))) ys)
    ∙ spelt_begin s.first b.first ((32 ∷ (b.count ++ (ending b.line ++ b.entries))) ++ ys) (spells_of s.first b.first b.from)

joined : (low p : ℕ) (xs : Bytes) (s : Sub) (p₁ : ℕ) (xs₁ : Bytes) (ts : List Sub) (p₂ : ℕ) (xs₂ : Bytes) (q : ℕ) (rest : Bytes) →
    (low ≤ s.first) × Shape (SubBytes s) p xs p₁ xs₁ → Shape (SubsBytes (s.first + s.count) ts) p₁ xs₁ p₂ xs₂ → p₂ ≡ q → xs₂ ≡ rest → Shape (SubsBytes low (s ∷ ts)) p xs q rest
joined low p xs s p₁ xs₁ ts p₂ xs₂ q rest a b z r =
    let a₁ = a.1.to in
    let b₁ = b.to in
    let l = length-append a.1.own b.own in
    record {
      own = a.1.own ++ b.own;
      is = (a.0, a.1.own, b.own, a.1.is, refl, b.is);
      parts = a.1.parts ∙ ap (λ ys. a.1.own ++ ys) (b.parts ∙ ap (λ ys. b.own ++ ys) r) ∙ sym (append_assoc a.1.own b.own rest);
      to = omega arith;
    }

-- subsections that were taken
subs_shape : (n low p : ℕ) (xs : Bytes) (ss : List Sub) (q : ℕ) (rest : Bytes) → subs n low p xs ≡ ok ss q rest → Shape (SubsBytes low ss) p xs q rest
unfolding subs
subs_shape zero low p xs ss q rest f =
    let w : [] ≡ ss = cc in
    let r : xs ≡ rest = cc in
    let z : p ≡ q = cc in
    subst (λ (x : List Sub). Shape (SubsBytes low x) p xs q rest) w (record { own = []; is = refl; parts = r; to = omega arith })
subs_shape (suc n) low p xs ss q rest f =
    cases (begins_digit xs)
    (λ a.
    then_ok (sub low p xs) (λ s p₁ xs₁. then (subs n (s.first + s.count) p₁ xs₁) (λ ts p₂ xs₂. ok (s ∷ ts) p₂ xs₂)) (rw (a, subs) at f)
    (λ s p₁ xs₁ e₁ f₁.
    then_ok (subs n (s.first + s.count) p₁ xs₁) (λ ts p₂ xs₂. ok (s ∷ ts) p₂ xs₂) f₁
    (λ ts p₂ xs₂ e₂ f₂.
    let w : s ∷ ts ≡ ss = cc in
    let r : xs₂ ≡ rest = cc in
    let z : p₂ ≡ q = cc in
    subst (λ (x : List Sub). Shape (SubsBytes low x) p xs q rest) w
    (joined low p xs s p₁ xs₁ ts p₂ xs₂ q rest (sub_shape low p xs s p₁ xs₁ e₁) (subs_shape n (s.first + s.count) p₁ xs₁ ts p₂ xs₂ e₂) z r))))
    (λ a.
    let g : ◌≡◌ {A = Got (List Sub)} (ok [] p xs) (ok ss q rest) = rw (a, subs) at f in
    let w : [] ≡ ss = cc in
    let r : xs ≡ rest = cc in
    let z : p ≡ q = cc in
    subst (λ (x : List Sub). Shape (SubsBytes low x) p xs q rest) w (record { own = []; is = refl; parts = r; to = omega arith }))

-- subsections are taken where they stand, before bytes that begin with no digit
subs_taken : (ss : List Sub) (k low p : ℕ) (own ys : Bytes) → length ss < k → SubsBytes low ss own → begins_digit ys ≡ false → subs k low p (own ++ ys) ≡ ok ss (p + length own) ys
unfolding subs
subs_taken ss zero low p own ys h b d = absurd (omega arith)
subs_taken [] (suc k) low p own ys h b d =
    let q : p ≡ p + length own = let l = ap length b in omega arith in
    let e : own ++ ys ≡ ys = ap (λ zs. zs ++ ys) b in
    rw e (rw (d, subs) (ok_at q))
subs_taken (s ∷ ss) (suc k) low p own ys h b d =
    let a : Bytes = b.1 in
    let c : Bytes = b.2 in
    let parts : own ++ ys ≡ a ++ (c ++ ys) = ap (λ zs. zs ++ ys) b.4 ∙ append_assoc a c ys in
    let l : length own ≡ length a + length c = ap length b.4 ∙ length-append a c in
    rw parts
    (rw (sub_begin s a (c ++ ys) b.3, subs)
    (rw (sub_taken low s a p (c ++ ys) b.0 b.3) (rw (subs_taken ss k (s.first + s.count) (p + length a) c ys (omega arith) b.5 d) (ok_at (omega arith)))))

-- one subsection and more that were taken
pub all_subs_shape : (p : ℕ) (xs : Bytes) (ss : List Sub) (q : ℕ) (rest : Bytes) → all_subs p xs ≡ ok ss q rest → Shape (λ own. SubsBytes 0 ss own × (1 ≤ length ss)) p xs q rest
unfolding all_subs
all_subs_shape p xs ss q rest f =
    then_ok (sub 0 p xs) (λ s p₁ xs₁. then (subs turns (s.first + s.count) p₁ xs₁) (λ ts p₂ xs₂. ok (s ∷ ts) p₂ xs₂)) f
    (λ s p₁ xs₁ e₁ f₁.
    then_ok (subs turns (s.first + s.count) p₁ xs₁) (λ ts p₂ xs₂. ok (s ∷ ts) p₂ xs₂) f₁
    (λ ts p₂ xs₂ e₂ f₂.
    let w : s ∷ ts ≡ ss = cc in
    let r : xs₂ ≡ rest = cc in
    let z : p₂ ≡ q = cc in
    let j = joined 0 p xs s p₁ xs₁ ts p₂ xs₂ q rest (sub_shape 0 p xs s p₁ xs₁ e₁) (subs_shape turns (s.first + s.count) p₁ xs₁ ts p₂ xs₂ e₂) z r in
    subst (λ (x : List Sub). Shape (λ own. SubsBytes 0 x own × (1 ≤ length x)) p xs q rest) w
    (record { own = j.own; is = (j.is, omega arith); parts = j.parts; to = j.to })))

-- there are no more subsections than bytes
pub subs_few : (ss : List Sub) (low : ℕ) (own : Bytes) → SubsBytes low ss own → length ss ≤ length own
subs_few [] low own b = omega arith
subs_few (s ∷ ss) low own b =
    let k = subs_few ss (s.first + s.count) b.2 b.5 in
    let l = ap length b.4 ∙ length-append b.1 b.2 in
    let n = ap length b.3.is ∙ length-append b.3.first (32 ∷ (b.3.count ++ (ending b.3.line ++ b.3.entries))) in
    omega arith

pub all_subs_taken : (ss : List Sub) (p : ℕ) (own ys : Bytes) → 1 ≤ length ss → length ss < turns → SubsBytes 0 ss own → begins_digit ys ≡ false → all_subs p (own ++ ys) ≡ ok ss (p + length own) ys
unfolding all_subs
all_subs_taken [] p own ys h k b d = absurd (omega arith)
all_subs_taken (s ∷ ss) p own ys h k b d =
    let a : Bytes = b.1 in
    let c : Bytes = b.2 in
    let parts : own ++ ys ≡ a ++ (c ++ ys) = ap (λ zs. zs ++ ys) b.4 ∙ append_assoc a c ys in
    let l : length own ≡ length a + length c = ap length b.4 ∙ length-append a c in
    rw parts
    (rw (sub_taken 0 s a p (c ++ ys) b.0 b.3) (rw (subs_taken ss turns (s.first + s.count) (p + length a) c ys (omega arith) b.5 d) (ok_at (omega arith))))

-- subsections begin with a digit
pub subs_begin : (ss : List Sub) (low : ℕ) (own ys : Bytes) → 1 ≤ length ss → SubsBytes low ss own → begins_digit (own ++ ys) ≡ true
subs_begin [] low own ys h b = absurd (omega arith)
subs_begin (s ∷ ss) low own ys h b = ap begins_digit (ap (λ zs. zs ++ ys) b.4 ∙ append_assoc b.1 b.2 ys) ∙ sub_begin s b.1 (b.2 ++ ys) b.3
