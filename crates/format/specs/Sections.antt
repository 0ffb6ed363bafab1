-- A cross-reference section with its trailer and tail (ISO 32000-1, 7.5.4 and 7.5.5).
use Rattle.std.specs.Prelude.{ℕ, zero, suc, ◌+◌, Bool, true, false, ◌&&◌, List, [], ◌∷◌, ◌++◌, reverse, Some, None, codes, Option, ◌==◌, nat_le}
use Rattle.faults.specs.declared.fault.Fault.{Fault}
use Rattle.faults.specs.declared.reason.Reason.TheVariants.{BytesEnd, BadToken, BadLine}
use Rattle.format.specs.Bytes.{Bytes, Got, ok, bad, then, is_digit, span, value}
use Rattle.format.specs.Failures.{object_fault, section_fault}
use Rattle.format.specs.Space.{skip}
use Rattle.format.specs.Strings.{turns}
use Rattle.format.specs.Tokens.{open_array, close_array, open_dict, close_dict, Kind, int, real, name, text, hex, mark, word, ended, flawed, flaw_fault, Token, token_at}
use Rattle.format.specs.Objects.{Entries, no_entries, entries, object_by}
use Rattle.format.specs.Frames.{behind}
use Rattle.format.specs.Lines.{Slot, placed, exact, exact_line, slot, sub_line, number_line}

-- what a section lists: numbers with their entries
abbrev pub Listed : Type 0
Listed = List (ℕ × Slot)

-- the entries of a subsection: how many, and the first one's number
unfoldable pub slots : (count first : ℕ) → ℕ → Bytes → Got Listed
slots zero n p xs = ok [] p xs
slots (suc c) n p xs =
    then (placed p xs (slot p xs))
    (λ s p₁ xs₁. then (slots c (suc n) p₁ xs₁) (λ ss p₂ xs₂. ok ((n, s) ∷ ss) p₂ xs₂))

-- a subsection: its first number, its count, what it lists
pub record Sub : Type 0 where
  pub first : ℕ
  pub count : ℕ
  pub rows : Listed

-- a subsection from the number `low` up, with at least one entry
unfoldable pub sub : ℕ → ℕ → Bytes → Got Sub
sub low p xs =
    then (placed p xs (sub_line p xs))
    (λ h p₁ xs₁.
    elim (nat_le low h.0 && nat_le 1 h.1) [
      | true ↦ then (slots h.1 h.0 p₁ xs₁) (λ ss p₂ xs₂. ok (record { first = h.0; count = h.1; rows = ss }) p₂ xs₂)
      | false ↦ bad (section_fault BadLine p)
    ])

unfoldable pub begins_digit : Bytes → Bool
begins_digit [] = false
begins_digit (x ∷ xs) = is_digit x

-- the subsections from `low` up, as long as a digit stands next
unfoldable pub subs : (turns : ℕ) → ℕ → ℕ → Bytes → Got (List Sub)
subs zero low p xs = ok [] p xs
subs (suc n) low p xs =
    elim (begins_digit xs) [
      | true ↦
          then (sub low p xs)
          (λ s p₁ xs₁. then (subs n (s.first + s.count) p₁ xs₁) (λ ss p₂ xs₂. ok (s ∷ ss) p₂ xs₂))
      | false ↦ ok [] p xs
    ]

-- one subsection and more, ascending, none over another
unfoldable pub all_subs : ℕ → Bytes → Got (List Sub)
all_subs p xs =
    then (sub 0 p xs)
    (λ s p₁ xs₁. then (subs turns (s.first + s.count) p₁ xs₁) (λ ss p₂ xs₂. ok (s ∷ ss) p₂ xs₂))

-- all that the subsections list, ascending
unfoldable pub listed : List Sub → Listed
listed [] = []
listed (s ∷ ss) = s.rows ++ listed ss

-- why a token behind `trailer` is not the `<<` that has to stand there
unfoldable pub no_dict : ℕ → Kind → Option Fault
no_dict p (mark open_dict) = None
no_dict p (mark close_dict) = Some (object_fault BadToken p)
no_dict p (mark open_array) = Some (object_fault BadToken p)
no_dict p (mark close_array) = Some (object_fault BadToken p)
no_dict p (word w) = Some (object_fault BadToken p)
no_dict p (int u z) = Some (object_fault BadToken p)
no_dict p (real w) = Some (object_fault BadToken p)
no_dict p (name d) = Some (object_fault BadToken p)
no_dict p (text w) = Some (object_fault BadToken p)
no_dict p (hex w) = Some (object_fault BadToken p)
no_dict p ended = Some (object_fault BytesEnd p)
no_dict p (flawed f) = Some (flaw_fault p f)

-- the trailer's dictionary: the place of its `<<`, and its entries
unfoldable pub trailer_at : Token → Got (ℕ × Entries)
trailer_at t =
    elim (no_dict t.from t.kind) [
      | Some f ↦ bad f
      | None ↦ then (entries (object_by 31) turns no_entries t.to t.rest) (λ es q ys. ok (t.from, es) q ys)
    ]

-- a tail that gives the offset `off`: `startxref`, the digits, `%%EOF`, each a line
unfoldable pub tail : ℕ → ℕ → Bytes → Got Unit
tail off p xs =
    then (placed p xs (exact_line (codes "startxref") p xs))
    (λ _ p₁ xs₁.
    then (placed p₁ xs₁ (number_line off p₁ xs₁)) (λ _ p₂ xs₂. placed p₂ xs₂ (exact_line (codes "%%EOF") p₂ xs₂)))

-- a section: where it starts, where its tail ends, its subsections, where its trailer's `<<` stands, the trailer's entries
pub record Section : Type 0 where
  pub offset : ℕ
  pub end : ℕ
  pub subsections : List Sub
  pub marked : ℕ
  pub trailer : Entries

-- `xref`, subsections, `trailer`, a dictionary and a tail; white space or comments may stand around the dictionary only
unfoldable pub section : ℕ → Bytes → Got Section
section off xs =
    then (placed off xs (exact_line (codes "xref") off xs))
    (λ _ p₁ xs₁.
    then (all_subs p₁ xs₁)
    (λ ss p₂ xs₂.
    then (placed p₂ xs₂ (exact (codes "trailer") p₂ xs₂))
    (λ _ p₃ xs₃.
    then (trailer_at (token_at p₃ xs₃))
    (λ t p₄ xs₄.
    let s = skip false p₄ xs₄ in
    then (tail off s.0 s.1)
    (λ _ p₅ xs₅. ok (record { offset = off; end = p₅; subsections = ss; marked = t.0; trailer = t.1 }) p₅ xs₅)))))

-- Read backwards, from the end of the file: an end of line, its last byte first.
unfoldable pub back_eol : Bytes → Option Bytes
back_eol [] = None
back_eol (x ∷ xs) =
    elim (x == 10) [
      | true ↦ elim xs [ [] ↦ Some [] | y ∷ ys ↦ elim (y == 13) [ true ↦ Some ys | false ↦ Some (y ∷ ys) ] ]
      | false ↦ elim (x == 13) [ true ↦ Some xs | false ↦ None ]
    ]

abbrev pub on : {A B : Type 0} → Option A → (A → Option B) → Option B
on None k = None
on (Some a) k = k a

-- one to ten digits, backwards
unfoldable pub back_digits : (Bytes × ℕ × Bytes) → Option (ℕ × Bytes)
back_digits r = elim (nat_le 1 r.1 && nat_le r.1 10) [ true ↦ Some (value (reverse r.0), r.2) | false ↦ None ]

-- the offset that the file's own tail gives
unfoldable pub last_offset : Bytes → Option ℕ
last_offset file =
    on (back_eol (reverse file))
    (λ a.
    on (behind (codes "FOE%%") a)
    (λ b.
    on (back_eol b)
    (λ c.
    on (back_digits (span is_digit 0 c))
    (λ d. on (back_eol d.1) (λ e. on (behind (codes "ferxtrats") e) (λ _. Some d.0))))))

-- what a proof by computation unfolds
unfoldable pub computes_sections : Unit {0}
unfolding slots sub begins_digit subs all_subs listed no_dict trailer_at tail section back_eol back_digits last_offset
computes_sections = tt
