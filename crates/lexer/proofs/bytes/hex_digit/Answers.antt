use Rattle.std.proofs.Common.{◌≡◌, ◌+◌, ◌-◌, sym, arith}
use Rattle.lexer.proofs.HexDigits.{by_digit, by_upper, by_lower, by_none}
use Rattle.lexer.proofs.bytes.hex_digit.Goals as goal

pub returns-in-48-to-57 : goal.returns-in-48-to-57
returns-in-48-to-57 c = sym (by_digit c.args.b (omega arith) (omega arith))

pub returns-in-65-to-70 : goal.returns-in-65-to-70
returns-in-65-to-70 c = let i : c.args.b - 65 + 10 ≡ c.args.b - 55 = omega arith in rw i (sym (by_upper c.args.b (omega arith) (omega arith)))

pub returns-in-97-to-102 : goal.returns-in-97-to-102
returns-in-97-to-102 c = let i : c.args.b - 97 + 10 ≡ c.args.b - 87 = omega arith in rw i (sym (by_lower c.args.b (omega arith) (omega arith)))

pub returns-in_default : goal.returns-in_default
returns-in_default c = sym (by_none c.args.b (λ h. omega arith) (λ h. omega arith) (λ h. omega arith))

pub returns-in_default-2 : goal.returns-in_default-2
returns-in_default-2 c = sym (by_none c.args.b (λ h. omega arith) (λ h. omega arith) (λ h. omega arith))

pub returns-in_default-3 : goal.returns-in_default-3
returns-in_default-3 c = sym (by_none c.args.b (λ h. omega arith) (λ h. omega arith) (λ h. omega arith))

pub returns-in_default-4 : goal.returns-in_default-4
returns-in_default-4 c = sym (by_none c.args.b (λ h. omega arith) (λ h. omega arith) (λ h. omega arith))
