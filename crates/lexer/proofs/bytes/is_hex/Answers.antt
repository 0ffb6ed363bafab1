use Rattle.std.proofs.Common.{◌∙◌}
use Rattle.lexer.proofs.HexDigits.{hex_told}
use Rattle.lexer.proofs.bytes.is_hex.Goals as goal

pub returns : goal.returns
returns c = c.is_some.ensures ∙ hex_told _ _ c.hex_digit.ensures
