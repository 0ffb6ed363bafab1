use Rattle.std.proofs.Common.{sym, ◌∙◌, arith}
use Rattle.std.proofs.lemmas.Bool.{eq-eqb, ne_eqb}
use Rattle.lexer.proofs.HexDigits.{digit_small}
use Rattle.lexer.proofs.Names.{byte_no_high, byte_no_low, byte_zero, byte_is}
use Rattle.lexer.proofs.name.hex_byte.Goals as goal

pub returns-in_err-h : goal.returns-in_err-h
returns-in_err-h c = c.from_residual.ensures ∙ sym (byte_no_high _ _ (sym c.in_err-h.ensures))

pub returns-in_err-l : goal.returns-in_err-l
returns-in_err-l c = c.from_residual-in_err-l.ensures ∙ sym (byte_no_low _ _ _ (sym c.in_ok-h.ensures) (sym c.in_err-l.ensures))

pub overflow_mul-byte : goal.overflow_mul-byte
overflow_mul-byte c = omega (arith, digit_small _ _ c.in_ok-h.ensures)

pub overflow_add-byte : goal.overflow_add-byte
overflow_add-byte c = omega (arith, digit_small _ _ c.in_ok-h.ensures, digit_small _ _ c.in_ok-l.ensures)

pub returns-then-byte-eq0 : goal.returns-then-byte-eq0
returns-then-byte-eq0 c = sym (byte_zero _ _ _ _ (sym c.in_ok-h.ensures) (sym c.in_ok-l.ensures) (eq-eqb _ _ c.if-byte-eq0.true))

pub returns-else-byte-eq0 : goal.returns-else-byte-eq0
returns-else-byte-eq0 c = sym (byte_is _ _ _ _ (sym c.in_ok-h.ensures) (sym c.in_ok-l.ensures) (ne_eqb _ _ c.if-byte-eq0.false))
