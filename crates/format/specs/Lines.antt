-- The lines and entries of a cross-reference section (ISO 32000-1, 7.5.4 and 7.5.5).
use Rattle.std.specs.Prelude.{ℕ, zero, suc, ◌+◌, ◌-◌, ◌*◌, Bool, true, false, ◌&&◌, ◌||◌, [], ◌∷◌, length, ◌==◌, nat_le}
use Rattle.faults.specs.declared.reason.Reason.TheVariants.{BytesEnd, BadLine}
use Rattle.format.specs.Bytes.{Bytes, Got, ok, bad, end_of, is_digit, span, value}
use Rattle.format.specs.Failures.{section_fault}
use Rattle.format.specs.Space.{Eol, no_bytes, no_eol, eol_to, eol_at}

-- what a part of a line is: a value, with the place behind it and the bytes from there; or the bytes end in it; or they do not fit
pub data Piece (A : Type 0) : Type 0 where
  took : A → ℕ → Bytes → Piece A
  short : Piece A
  misfit : Piece A

-- one part after another
abbrev pub next : {A B : Type 0} → Piece A → (A → ℕ → Bytes → Piece B) → Piece B
next (took a p xs) k = k a p xs
next short k = short
next misfit k = misfit

-- Of a line or an entry that starts at p: where its bytes end, the fault is at the end of the bytes; where they do not fit, at its first byte.
unfoldable pub placed : {A : Type 0} → ℕ → Bytes → Piece A → Got A
placed p xs (took a q ys) = ok a q ys
placed p xs short = bad (section_fault BytesEnd (end_of p xs))
placed p xs misfit = bad (section_fault BadLine p)

-- just these bytes
unfoldable pub exact : Bytes → ℕ → Bytes → Piece Unit
exact [] p xs = took tt p xs
exact (w ∷ ws) p [] = short
exact (w ∷ ws) p (x ∷ xs) = elim (w == x) [ true ↦ exact ws (suc p) xs | false ↦ misfit ]

unfoldable pub eol_piece : Eol → Piece Unit
eol_piece no_bytes = short
eol_piece no_eol = misfit
eol_piece (eol_to p xs) = took tt p xs

-- an end of line
unfoldable pub eol : ℕ → Bytes → Piece Unit
eol p xs = eol_piece (eol_at p xs)

-- these bytes, then an end of line
unfoldable pub exact_line : Bytes → ℕ → Bytes → Piece Unit
exact_line w p xs = next (exact w p xs) (λ _ q ys. eol q ys)

unfoldable pub is_empty : Bytes → Bool
is_empty [] = true
is_empty (x ∷ xs) = false

-- one to ten digits, cut from what follows
unfoldable pub counted : (Bytes × ℕ × Bytes) → Piece ℕ
counted r =
    elim (nat_le (length r.0) 10) [
      | true ↦
          elim (is_empty r.0) [
            | true ↦ elim (is_empty r.2) [ true ↦ short | false ↦ misfit ]
            | false ↦ took (value r.0) r.1 r.2
          ]
      | false ↦ misfit
    ]

unfoldable pub digits : ℕ → Bytes → Piece ℕ
digits p xs = counted (span is_digit p xs)

-- exactly k digits, behind those that spell n
unfoldable pub digits_of : (k : ℕ) → ℕ → ℕ → Bytes → Piece ℕ
digits_of zero n p xs = took n p xs
digits_of (suc k) n p [] = short
digits_of (suc k) n p (x ∷ xs) = elim (is_digit x) [ true ↦ digits_of k (n * 10 + (x - 48)) (suc p) xs | false ↦ misfit ]

-- An entry: in use or free; its ten digits, which are the object's offset or the next free number; its generation.
pub record Slot : Type 0 where
  pub in_use : Bool
  pub field : ℕ
  pub gen : ℕ

-- `n` or `f`
unfoldable pub use_mark : ℕ → Bytes → Piece Bool
use_mark p [] = short
use_mark p (x ∷ xs) =
    elim (x == 110) [
      | true ↦ took true (suc p) xs
      | false ↦ elim (x == 102) [ true ↦ took false (suc p) xs | false ↦ misfit ]
    ]

-- the two last bytes of an entry that begin with x: space CR, space LF or CR LF
unfoldable pub slot_ends : ℕ → ℕ → Bool
slot_ends x y = (x == 32 && (y == 13 || y == 10)) || (x == 13 && y == 10)

unfoldable pub slot_end : ℕ → Bytes → Piece Unit
slot_end p [] = short
slot_end p (x ∷ []) = elim (x == 32 || x == 13) [ true ↦ short | false ↦ misfit ]
slot_end p (x ∷ y ∷ ys) = elim (slot_ends x y) [ true ↦ took tt (suc (suc p)) ys | false ↦ misfit ]

-- the 20 bytes of an entry: ten digits, space, five digits, space, mark, two bytes of end
unfoldable pub slot : ℕ → Bytes → Piece Slot
slot p xs =
    next (digits_of 10 0 p xs)
    (λ f p₁ xs₁.
    next (exact (32 ∷ []) p₁ xs₁)
    (λ _ p₂ xs₂.
    next (digits_of 5 0 p₂ xs₂)
    (λ g p₃ xs₃.
    next (exact (32 ∷ []) p₃ xs₃)
    (λ _ p₄ xs₄.
    next (use_mark p₄ xs₄)
    (λ u p₅ xs₅.
    next (slot_end p₅ xs₅) (λ _ p₆ xs₆. took (record { in_use = u; field = f; gen = g }) p₆ xs₆))))))

-- a subsection's line: the first number, one space, the count, an end of line
unfoldable pub sub_line : ℕ → Bytes → Piece (ℕ × ℕ)
sub_line p xs =
    next (digits p xs)
    (λ n p₁ xs₁.
    next (exact (32 ∷ []) p₁ xs₁)
    (λ _ p₂ xs₂. next (digits p₂ xs₂) (λ c p₃ xs₃. next (eol p₃ xs₃) (λ _ p₄ xs₄. took (n, c) p₄ xs₄))))

-- a number of one to ten digits that has to be n, then an end of line
unfoldable pub number_line : ℕ → ℕ → Bytes → Piece Unit
number_line n p xs =
    next (digits p xs)
    (λ m p₁ xs₁. next (eol p₁ xs₁) (λ _ p₂ xs₂. elim (m == n) [ true ↦ took tt p₂ xs₂ | false ↦ misfit ]))

-- what a proof by computation unfolds
unfoldable pub computes_lines : Unit {0}
unfolding placed exact eol_piece eol exact_line is_empty counted digits digits_of use_mark slot_ends slot_end slot sub_line number_line
computes_lines = tt
