-- How strings and lines end, as the definitions say it.
use Rattle.std.specs.Prelude.{◌≡◌, ℕ, length, drop, Some, None, Ok, Err, Option, Result}
use Rattle.format.specs.Bytes.{Bytes}
use Rattle.format.specs.Space.{Eol, no_bytes, no_eol, eol_to}
use Rattle.format.specs.Strings.{Span, closed, unclosed, too_deep_at, broken_at}
use Rattle.format.specs.Tokens as format
use Rattle.lexer.specs.declared.flaw.Flaw.{Flaw}
use Rattle.lexer.specs.declared.line.Lack.{Lack}
use Rattle.lexer.specs.declared.line.Lack.TheVariants.{Short, Misfit}
use Rattle.lexer.specs.Flaws.{flaw_shown}

-- what is wrong with a string in the bytes src; f tells it of a byte that cannot stand there
abbrev pub span_flaw : (ℕ → format.Flaw) → Bytes → Span → Option format.Flaw
span_flaw f src (closed q xs) = None
span_flaw f src unclosed = Some (format.cut_short (length src))
span_flaw f src (too_deep_at q) = Some (format.deep_bracket q)
span_flaw f src (broken_at q) = Some (f q)

-- the string is closed before the place that was read, or what was read is wrong with it
abbrev pub StringRead : (ℕ → format.Flaw) → Bytes → Span → Result ℕ Flaw → Type 0
StringRead f src s (Ok q) = s ≡ closed q (drop q src)
StringRead f src s (Err e) = span_flaw f src s ≡ Some (flaw_shown e)

-- the end of a line in the bytes src
abbrev pub line_shown : Bytes → Result ℕ Lack → Eol
line_shown src (Ok q) = eol_to q (drop q src)
line_shown src (Err Short) = no_bytes
line_shown src (Err Misfit) = no_eol
