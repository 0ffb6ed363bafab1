-- The entries of a section: what is read is what the bytes are.
use Rattle.std.proofs.Common.{◌≡◌, ℕ, zero, suc, ◌+◌, ◌-◌, ◌*◌, ◌≤◌, Bool, true, false, ◌&&◌, ◌||◌, eqb, ◌⊎◌, [], ◌∷◌, ◌++◌, length, sym, refl, ap, ◌∙◌, subst, inl, inr, append_assoc, arith, length-append}
use Rattle.std.proofs.lemmas.Bool.{and_parts, and_from, or_cases, eqb-true}
use Rattle.format.specs.Bytes.{Bytes, ok, then, is_digit, every, value, value_on}
use Rattle.format.specs.Lines.{Piece, took, next, placed, exact, digits_of, Slot, use_mark, slot_ends, slot_end, slot}
use Rattle.format.specs.Sections.{Listed, slots, begins_digit}
use Rattle.locality.proofs.Cases.{cases}
use Rattle.sections.proofs.Digits.{took_at}
use Rattle.sections.proofs.LinesLocal.{exact_shape}
use Rattle.sections.proofs.Local.{not_short, not_misfit, next_took, then_ok, placed_ok}
use Rattle.sections.proofs.Tails.{ok_at}
use Rattle.rules.specs.Forms.{Padded, EntryEnd, space_cr, space_lf, cr_lf, entry_end, use_byte, EntryBytes, RowBytes}

-- the bytes that were taken, from the place p to q, before the rest
pub record Shape (P : Bytes → Type 0) (p : ℕ) (xs : Bytes) (q : ℕ) (rest : Bytes) : Type 0 where
  pub own : Bytes
  pub is : P own
  pub parts : xs ≡ own ++ rest
  pub to : q ≡ p + length own

-- exactly k digits, behind those that spell n
record Digited (k n v p : ℕ) (xs : Bytes) (q : ℕ) (rest : Bytes) : Type 0 where
  ds : Bytes
  parts : xs ≡ ds ++ rest
  long : length ds ≡ k
  digits : every is_digit ds ≡ true
  spells : value_on n ds ≡ v
  to : q ≡ p + k

digits_of_shape : (k n p : ℕ) (xs : Bytes) {v q : ℕ} {rest : Bytes} → digits_of k n p xs ≡ took v q rest → Digited k n v p xs q rest
unfolding digits_of every value_on
digits_of_shape zero n p xs {v} {q} {rest} e =
    let u : n ≡ v = cc in
    let w : xs ≡ rest = cc in
    let z : p ≡ q = cc in
    record { ds = []; parts = w; long = refl; digits = refl; spells = u; to = omega arith }
digits_of_shape (suc k) n p [] e = not_short e
digits_of_shape (suc k) n p (x ∷ xs) e =
    cases (is_digit x)
    (λ b.
    let r = digits_of_shape k (n * 10 + (x - 48)) (suc p) xs (rw (b, digits_of) at e) in
    let t = r.to in
    record {
      ds = x ∷ r.ds;
      parts = ap {B = Bytes} (λ ys. x ∷ ys) r.parts;
      long = ap suc r.long;
      digits = and_from (is_digit x) (every is_digit r.ds) b r.digits;
      spells = r.spells;
      to = omega arith;
    })
    (λ b. not_misfit (rw (b, digits_of) at e))

digits_of_taken : (k n p : ℕ) (ds ys : Bytes) → length ds ≡ k → every is_digit ds ≡ true → digits_of k n p (ds ++ ys) ≡ took (value_on n ds) (p + k) ys
unfolding digits_of every value_on
digits_of_taken zero n p [] ys l d = took_at (omega arith)
digits_of_taken zero n p (x ∷ ds) ys l d = absurd (omega arith)
digits_of_taken (suc k) n p [] ys l d = absurd (omega arith)
digits_of_taken (suc k) n p (x ∷ ds) ys l d =
    let w = and_parts (is_digit x) (every is_digit ds) d in
    rw (w.0, digits_of) (digits_of_taken k (n * 10 + (x - 48)) (suc p) ds ys (omega arith) w.1 ∙ took_at (omega arith))

use_mark_shape : (p : ℕ) (xs : Bytes) {u : Bool} {q : ℕ} {rest : Bytes} → use_mark p xs ≡ took u q rest → (xs ≡ use_byte u ∷ rest) × (q ≡ suc p)
unfolding use_mark
use_mark_shape p [] e = not_short e
use_mark_shape p (x ∷ xs) {u} {q} {rest} e =
    cases (eqb x 110)
    (λ a.
    let f : ◌≡◌ {A = Piece Bool} (took true (suc p) xs) (took u q rest) = rw (a, use_mark) at e in
    let v : x ≡ 110 = eqb-true x 110 a in
    let w : xs ≡ rest = cc in
    let m : true ≡ u = cc in
    let z : suc p ≡ q = cc in
    (subst (λ (b : Bool). x ∷ xs ≡ use_byte b ∷ rest) m (λ i. v i ∷ w i), sym z))
    (λ a.
    cases (eqb x 102)
    (λ b.
    let f : ◌≡◌ {A = Piece Bool} (took false (suc p) xs) (took u q rest) = rw (a, b, use_mark) at e in
    let v : x ≡ 102 = eqb-true x 102 b in
    let w : xs ≡ rest = cc in
    let m : false ≡ u = cc in
    let z : suc p ≡ q = cc in
    (subst (λ (c : Bool). x ∷ xs ≡ use_byte c ∷ rest) m (λ i. v i ∷ w i), sym z))
    (λ b. not_misfit (rw (a, b, use_mark) at e)))

use_mark_taken : (u : Bool) (p : ℕ) (ys : Bytes) → use_mark p (use_byte u ∷ ys) ≡ took u (suc p) ys
unfolding use_mark
use_mark_taken true p ys = refl
use_mark_taken false p ys = refl

ends_shape : (x y : ℕ) → slot_ends x y ≡ true → (e : EntryEnd) × (x ∷ y ∷ [] ≡ entry_end e)
unfolding slot_ends
ends_shape x y h = go (or_cases (eqb x 32 && (eqb y 13 || eqb y 10)) (eqb x 13 && eqb y 10) h)
  where
    two : (a b : ℕ) → x ≡ a → y ≡ b → x ∷ y ∷ [] ≡ a ∷ b ∷ []
    two a b u v = λ i. u i ∷ v i ∷ []

    space : x ≡ 32 → (eqb y 13 ≡ true) ⊎ (eqb y 10 ≡ true) → (e : EntryEnd) × (x ∷ y ∷ [] ≡ entry_end e)
    space u (inl v) = (space_cr, two 32 13 u (eqb-true y 13 v))
    space u (inr v) = (space_lf, two 32 10 u (eqb-true y 10 v))

    go : (eqb x 32 && (eqb y 13 || eqb y 10) ≡ true) ⊎ (eqb x 13 && eqb y 10 ≡ true) → (e : EntryEnd) × (x ∷ y ∷ [] ≡ entry_end e)
    go (inl a) = let w = and_parts (eqb x 32) (eqb y 13 || eqb y 10) a in space (eqb-true x 32 w.0) (or_cases (eqb y 13) (eqb y 10) w.1)
    go (inr a) = let w = and_parts (eqb x 13) (eqb y 10) a in (cr_lf, two 13 10 (eqb-true x 13 w.0) (eqb-true y 10 w.1))

slot_end_shape : (p : ℕ) (xs : Bytes) {u : Unit {0}} {q : ℕ} {rest : Bytes} → slot_end p xs ≡ took u q rest → (e : EntryEnd) × (xs ≡ entry_end e ++ rest) × (q ≡ suc (suc p))
unfolding slot_end
slot_end_shape p [] e = not_short e
slot_end_shape p (x ∷ []) e = cases (eqb x 32 || eqb x 13) (λ a. not_short (rw (a, slot_end) at e)) (λ a. not_misfit (rw (a, slot_end) at e))
slot_end_shape p (x ∷ y ∷ ys) {u} {q} {rest} e =
    cases (slot_ends x y)
    (λ a.
    let f : ◌≡◌ {A = Piece Unit} (took tt (suc (suc p)) ys) (took u q rest) = rw (a, slot_end) at e in
    let w : ys ≡ rest = cc in
    let z : suc (suc p) ≡ q = cc in
    let d = ends_shape x y a in
    let g = d.1 in
    (d.0, λ i. g i ++ w i, sym z))
    (λ a. not_misfit (rw (a, slot_end) at e))

slot_end_taken : (e : EntryEnd) (p : ℕ) (ys : Bytes) → slot_end p (entry_end e ++ ys) ≡ took tt (suc (suc p)) ys
unfolding slot_end slot_ends
slot_end_taken space_cr p ys = refl
slot_end_taken space_lf p ys = refl
slot_end_taken cr_lf p ys = refl

-- one space
pub space_taken : (p : ℕ) (ys : Bytes) → exact (32 ∷ []) p (32 ∷ ys) ≡ took tt (suc p) ys
unfolding exact
space_taken p ys = refl

-- the parts of an entry
abbrev slot₅ : ℕ → ℕ → Bool → ℕ → Bytes → Piece Slot
slot₅ f g u p xs = next (slot_end p xs) (λ _ q ys. took (record { in_use = u; field = f; gen = g }) q ys)

abbrev slot₄ : ℕ → ℕ → ℕ → Bytes → Piece Slot
slot₄ f g p xs = next (use_mark p xs) (λ u q ys. slot₅ f g u q ys)

abbrev slot₃ : ℕ → ℕ → ℕ → Bytes → Piece Slot
slot₃ f g p xs = next (exact (32 ∷ []) p xs) (λ _ q ys. slot₄ f g q ys)

abbrev slot₂ : ℕ → ℕ → Bytes → Piece Slot
slot₂ f p xs = next (digits_of 5 0 p xs) (λ g q ys. slot₃ f g q ys)

abbrev slot₁ : ℕ → ℕ → Bytes → Piece Slot
slot₁ f p xs = next (exact (32 ∷ []) p xs) (λ _ q ys. slot₂ f q ys)

two : (x : EntryEnd) → length (entry_end x) ≡ 2
two space_cr = refl
two space_lf = refl
two cr_lf = refl

padded : {k v p q : ℕ} {xs rest : Bytes} (d : Digited k 0 v p xs q rest) → Padded k v d.ds
unfolding value
padded d = record { long = d.long; digits = d.digits; spells = d.spells }

-- an entry that was taken
pub slot_shape : (p : ℕ) (xs : Bytes) {e : Slot} {q : ℕ} {rest : Bytes} → slot p xs ≡ took e q rest → Shape (EntryBytes e) p xs q rest
unfolding slot
slot_shape p xs {e} {q} {rest} h =
    next_took (digits_of 10 0 p xs) (λ f r ys. slot₁ f r ys) h
    (λ f p₁ xs₁ e₁ h₁.
    next_took (exact (32 ∷ []) p₁ xs₁) (λ _ r ys. slot₂ f r ys) h₁
    (λ u₂ p₂ xs₂ e₂ h₂.
    next_took (digits_of 5 0 p₂ xs₂) (λ g r ys. slot₃ f g r ys) h₂
    (λ g p₃ xs₃ e₃ h₃.
    next_took (exact (32 ∷ []) p₃ xs₃) (λ _ r ys. slot₄ f g r ys) h₃
    (λ u₄ p₄ xs₄ e₄ h₄.
    next_took (use_mark p₄ xs₄) (λ u r ys. slot₅ f g u r ys) h₄
    (λ u p₅ xs₅ e₅ h₅.
    next_took (slot_end p₅ xs₅) (λ _ r ys. took (record { in_use = u; field = f; gen = g }) r ys) h₅
    (λ u₆ p₆ xs₆ e₆ h₆.
    let w : ◌≡◌ {A = Slot} (record { in_use = u; field = f; gen = g }) e = cc in
    let r : xs₆ ≡ rest = cc in
    let z : p₆ ≡ q = cc in
    subst (λ (x : Slot). Shape (EntryBytes x) p xs q rest) w
    (shape (digits_of_shape 10 0 p xs e₁) (exact_shape (32 ∷ []) p₁ xs₁ e₂) (digits_of_shape 5 0 p₂ xs₂ e₃) (exact_shape (32 ∷ []) p₃ xs₃ e₄) (use_mark_shape p₄ xs₄ e₅) (slot_end_shape p₅ xs₅ e₆) r z)))))))
  where
    shape : {f g : ℕ} {u : Bool} {p₁ p₂ p₃ p₄ p₅ p₆ : ℕ} {xs₁ xs₂ xs₃ xs₄ xs₅ xs₆ : Bytes} → Digited 10 0 f p xs p₁ xs₁ → (xs₁ ≡ (32 ∷ []) ++ xs₂) × (p₂ ≡ p₁ + length {A = ℕ} (32 ∷ [])) → Digited 5 0 g p₂ xs₂ p₃ xs₃ →
        (xs₃ ≡ (32 ∷ []) ++ xs₄) × (p₄ ≡ p₃ + length {A = ℕ} (32 ∷ [])) → (xs₄ ≡ use_byte u ∷ xs₅) × (p₅ ≡ suc p₄) → (d : EntryEnd) × (xs₅ ≡ entry_end d ++ xs₆) × (p₆ ≡ suc (suc p₅)) → xs₆ ≡ rest → p₆ ≡ q →
        Shape (EntryBytes (record { in_use = u; field = f; gen = g })) p xs q rest
    shape {u = u} a b c d m n r z =
        let a₁ = a.to in
        let b₁ = b.1 in
        let c₁ = c.to in
        let d₁ = d.1 in
        let m₁ = m.1 in
        let n₂ = n.2 in
        let la = a.long in
        let lc = c.long in
        let own : Bytes = a.ds ++ (32 ∷ (c.ds ++ (32 ∷ (use_byte u ∷ entry_end n.0)))) in
        let parts : xs ≡ a.ds ++ (32 ∷ (c.ds ++ (32 ∷ (use_byte u ∷ (entry_end n.0 ++ rest))))) =
        a.parts ∙ ap (λ ys. a.ds ++ ys) (b.0 ∙ ap {B = Bytes} (λ ys. 32 ∷ ys) (c.parts ∙ ap (λ ys. c.ds ++ ys) (d.0 ∙ ap {B = Bytes} (λ ys. 32 ∷ ys) (m.0 ∙ ap {B = Bytes} (λ ys. use_byte u ∷ ys) (n.1 ∙ ap (λ ys. entry_end n.0 ++ ys) r))))) in
        let l₁ = length-append a.ds (32 ∷ (c.ds ++ (32 ∷ (use_byte u ∷ entry_end n.0)))) in
        let l₂ = length-append c.ds (32 ∷ (use_byte u ∷ entry_end n.0)) in
        let l₃ = two n.0 in
        record {
          own = own;
          is = record { field = a.ds; gen = c.ds; end = n.0; ten = padded a; five = padded c; is = refl };
          parts = parts ∙ simp append_assoc;
          to = omega arith;
        }

-- an entry is taken where it stands
pub slot_taken : (e : Slot) (own : Bytes) (p : ℕ) (ys : Bytes) → EntryBytes e own → slot p (own ++ ys) ≡ took e (p + length own) ys
unfolding slot value
slot_taken e own p ys b =
    let f : Bytes = b.field in
    let g : Bytes = b.gen in
    let parts : own ++ ys ≡ f ++ (32 ∷ (g ++ (32 ∷ (use_byte e.in_use ∷ (entry_end b.end ++ ys))))) = ap (λ zs. zs ++ ys) b.is ∙ simp append_assoc in
    let lf = b.ten.long in
    let lg = b.five.long in
    let l : length own ≡ 20 =
    ap length b.is
    ∙ length-append f (32 ∷ (g ++ (32 ∷ (use_byte e.in_use ∷ entry_end b.end))))
    ∙ (let m = length-append g (32 ∷ (use_byte e.in_use ∷ entry_end b.end)) in let n = two b.end in omega arith) in
    rw parts
    (rw (digits_of_taken 10 0 p f (32 ∷ (g ++ (32 ∷ (use_byte e.in_use ∷ (entry_end b.end ++ ys))))) lf b.ten.digits)
    (rw (space_taken (p + 10) (g ++ (32 ∷ (use_byte e.in_use ∷ (entry_end b.end ++ ys)))))
    (rw (digits_of_taken 5 0 (suc (p + 10)) g (32 ∷ (use_byte e.in_use ∷ (entry_end b.end ++ ys))) lg b.five.digits)
    (rw (space_taken (suc (p + 10) + 5) (use_byte e.in_use ∷ (entry_end b.end ++ ys)))
    (rw (use_mark_taken e.in_use (suc (suc (p + 10) + 5)) (entry_end b.end ++ ys))
    (rw (slot_end_taken b.end (suc (suc (suc (p + 10) + 5))) ys)
    (let r : suc (suc (suc (suc (suc (p + 10) + 5)))) ≡ p + length own = omega arith in
    let u = b.ten.spells in
    let v = b.five.spells in
    λ i. took (record { in_use = e.in_use; field = u i; gen = v i }) (r i) ys)))))))

-- entries that were taken
pub slots_shape : (c n p : ℕ) (xs : Bytes) (ss : Listed) (q : ℕ) (rest : Bytes) → slots c n p xs ≡ ok ss q rest → Shape (λ own. RowBytes n ss own × (length ss ≡ c)) p xs q rest
unfolding slots
slots_shape zero n p xs ss q rest h =
    let w : [] ≡ ss = cc in
    let r : xs ≡ rest = cc in
    let z : p ≡ q = cc in
    subst (λ (x : Listed). Shape (λ own. RowBytes n x own × (length x ≡ 0)) p xs q rest) w
    (record { own = []; is = (refl, refl); parts = r; to = omega arith })
slots_shape (suc c) n p xs ss q rest h =
    then_ok (placed p xs (slot p xs)) (λ s p₁ ys. then (slots c (suc n) p₁ ys) (λ ts p₂ zs. ok ((n, s) ∷ ts) p₂ zs)) h
    (λ s p₁ xs₁ e₁ h₁.
    then_ok (slots c (suc n) p₁ xs₁) (λ ts p₂ zs. ok ((n, s) ∷ ts) p₂ zs) h₁
    (λ ts p₂ xs₂ e₂ h₂.
    let w : (n, s) ∷ ts ≡ ss = cc in
    let r : xs₂ ≡ rest = cc in
    let z : p₂ ≡ q = cc in
    let a = slot_shape p xs (placed_ok p xs (slot p xs) e₁) in
    let b = slots_shape c (suc n) p₁ xs₁ ts p₂ xs₂ e₂ in
    let a₁ = a.to in
    let b₁ = b.to in
    let l = length-append a.own b.own in
    let k = b.is.1 in
    subst (λ (x : Listed). Shape (λ own. RowBytes n x own × (length x ≡ suc c)) p xs q rest) w
    (record {
      own = a.own ++ b.own;
      is = ((refl, a.own, b.own, a.is, refl, b.is.0), ap suc k);
      parts = a.parts ∙ ap (λ ys. a.own ++ ys) (b.parts ∙ ap (λ ys. b.own ++ ys) r) ∙ sym (append_assoc a.own b.own rest);
      to = omega arith;
    })))

-- entries are taken where they stand
pub slots_taken : (rs : Listed) (n p : ℕ) (own ys : Bytes) → RowBytes n rs own → slots (length rs) n p (own ++ ys) ≡ ok rs (p + length own) ys
unfolding slots placed
slots_taken [] n p own ys b = let q : p ≡ p + length own = let l = ap length b in omega arith in rw b (ok_at (omega arith))
slots_taken (r ∷ rs) n p own ys b =
    let a : Bytes = b.1 in
    let c : Bytes = b.2 in
    let parts : own ++ ys ≡ a ++ (c ++ ys) = ap (λ zs. zs ++ ys) b.4 ∙ append_assoc a c ys in
    let l : length own ≡ length a + length c = ap length b.4 ∙ length-append a c in
    rw parts
    (rw (slot_taken r.1 a p (c ++ ys) b.3)
    (rw (slots_taken rs (suc n) (p + length a) c ys b.5)
    (let q : p + length a + length c ≡ p + length own = omega arith in
    let w : n ≡ r.0 = sym b.0 in
    λ i. ok ((w i, r.1) ∷ rs) (q i) ys)))

-- entries begin with a digit
pub rows_begin : (rs : Listed) (n : ℕ) (own ys : Bytes) → 1 ≤ length rs → RowBytes n rs own → begins_digit (own ++ ys) ≡ true
unfolding begins_digit every
rows_begin [] n own ys h b = absurd (omega arith)
rows_begin (r ∷ rs) n own ys h b = rw b.4 (rw b.3.is (digit b.3.field (32 ∷ (b.3.gen ++ (32 ∷ (use_byte r.1.in_use ∷ entry_end b.3.end)))) b.3.ten.digits b.3.ten.long))
  where
    digit : (ds zs : Bytes) → every is_digit ds ≡ true → length ds ≡ 10 → begins_digit (((ds ++ zs) ++ b.2) ++ ys) ≡ true
    digit [] zs d l = absurd (omega arith)
    digit (x ∷ ds) zs d l = (and_parts (is_digit x) (every is_digit ds) d).0
