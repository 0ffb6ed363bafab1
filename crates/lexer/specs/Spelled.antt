-- What a name's bytes stand for, by looking ahead.
use Rattle.std.specs.Prelude.{ℕ, ◌+◌, ◌*◌, true, false, [], ◌∷◌, Some, None, Ok, Err, Option, Result, ◌==◌}
use Rattle.format.specs.Bytes.{Bytes}
use Rattle.format.specs.Names.{hex_digit, Decoded, decoded, wrong_hash}
use Rattle.lexer.specs.declared.flaw.Flaw.{Flaw}
use Rattle.lexer.specs.declared.flaw.Flaw.TheVariants.{BadName}

-- the byte that two hex digits behind a `#` give, which is not 0
unfoldable pub hex_byte : ℕ → ℕ → Option ℕ
hex_byte x y =
    elim (hex_digit x) [
      | None ↦ None
      | Some h ↦ elim (hex_digit y) [ None ↦ None | Some l ↦ elim (h * 16 + l == 0) [ true ↦ None | false ↦ Some (h * 16 + l) ] ]
    ]

-- The bytes that a name's bytes stand for. A `#` that is wrong stands for itself; no name that was read has one.
unfoldable pub spelled : Bytes → Bytes
spelled [] = []
spelled (x ∷ []) = x ∷ []
spelled (x ∷ y ∷ []) = x ∷ y ∷ []
spelled (x ∷ y ∷ z ∷ zs) =
    elim (x == 35) [
      | true ↦ elim (hex_byte y z) [ None ↦ x ∷ spelled (y ∷ z ∷ zs) | Some c ↦ c ∷ spelled zs ]
      | false ↦ x ∷ spelled (y ∷ z ∷ zs)
    ]

-- the first `#` that is wrong, or none
abbrev pub checked : Decoded → Result Unit Flaw
checked (decoded cs) = Ok tt
checked (wrong_hash p) = Err (BadName p)
