-- Flaws as the definitions say them.
use Rattle.std.specs.Prelude.{◌≡◌, ◌<◌, length}
use Rattle.format.specs.Bytes.{Bytes}
use Rattle.format.specs.Tokens as format
use Rattle.lexer.specs.declared.flaw.Flaw.{Flaw}
use Rattle.lexer.specs.declared.flaw.Flaw.TheVariants.{BadName, BadNumber, BadHex, Stray, CutShort, DeepBracket, OutOfRange}

abbrev pub flaw_shown : Flaw → format.Flaw
flaw_shown (BadName q) = format.bad_name q
flaw_shown (BadNumber q) = format.bad_number q
flaw_shown (BadHex q) = format.bad_hex q
flaw_shown Stray = format.stray
flaw_shown (CutShort e) = format.cut_short e
flaw_shown (DeepBracket q) = format.deep_bracket q
flaw_shown OutOfRange = format.out_of_range

-- a string's flaw stands in the bytes src, or where they end
abbrev pub FlawWithin : Bytes → Flaw → Type 0
FlawWithin src (BadName q) = Unit {0}
FlawWithin src (BadNumber q) = Unit {0}
FlawWithin src (BadHex q) = q < length src
FlawWithin src Stray = Unit {0}
FlawWithin src (CutShort e) = e ≡ length src
FlawWithin src (DeepBracket q) = q < length src
FlawWithin src OutOfRange = Unit {0}
