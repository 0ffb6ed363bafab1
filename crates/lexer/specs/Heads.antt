-- Tokens as they are read from their first byte on.
use Rattle.std.specs.Prelude.{ℕ, suc, ◌∷◌, drop, slice_index, Result}
use Rattle.format.specs.Bytes.{Bytes, is_regular, span}
use Rattle.format.specs.Strings.{string}
use Rattle.format.specs.Tokens as format
use Rattle.lexer.specs.declared.flaw.Flaw.{Flaw}
use Rattle.lexer.specs.declared.head.Head.{Head}
use Rattle.lexer.specs.declared.token.Token.{Token}
use Rattle.lexer.specs.Views.{Reads}

-- the bytes behind the first
abbrev pub behind : Head → Bytes
behind h = drop (suc h.at) h.src.now

-- how the definitions read a token: its place, its first byte and those behind it
abbrev pub Reader : Type 0
Reader = ℕ → ℕ → Bytes → format.Token

-- a name, and a number or a word: both go on as far as the bytes behind the first are regular
abbrev pub name : Reader
name p x xs = format.name_token p x xs (span is_regular (suc p) xs)

abbrev pub run : Reader
run p x xs = format.run_token p x xs (span is_regular (suc p) xs)

-- a literal string
abbrev pub text : Reader
text p x xs = format.string_token format.text (λ q. format.stray) p (x ∷ xs) (string p xs)

-- the token that the definitions read there is what was read
abbrev pub ReadAs : Reader → Head → Result (Token × ℕ) Flaw → Type 0
ReadAs t h r = Reads h.src.now h.at (t h.at (slice_index h.src.now h.at) (behind h)) r
