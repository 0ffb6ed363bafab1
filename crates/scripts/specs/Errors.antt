-- What is printed of what is wrong in a script.
use Rattle.std.specs.Prelude.{ℕ, List, ◌++◌, codes, decimal}
use Rattle.scripts.specs.declared.error.Mistake.{Mistake}
use Rattle.scripts.specs.declared.error.Mistake.TheVariants.{NoChange, BadNumber, NumberAgain, SingleDot, NoEnd}
use Rattle.scripts.specs.declared.error.ReadError.{ReadError}
use Rattle.scripts.specs.declared.error.ReadError.TheVariants.{NoMemory, Wrong}
use Rattle.scripts.specs.declared.error.ScriptError.{ScriptError}

abbrev pub mistake_words : Mistake → List ℕ
mistake_words NoChange = codes "a change is `put N` or `remove N`"
mistake_words BadNumber = codes "a number is one to ten digits"
mistake_words NumberAgain = codes "this number has a change already"
mistake_words SingleDot = codes "a line of a body that starts with a dot is written with one dot more"
mistake_words NoEnd = codes "the body that starts here has no end, a line that is just a dot"

-- `line 3: this number has a change already`
abbrev pub error_words : ScriptError → List ℕ
error_words e = codes "line " ++ (decimal e.line ++ (codes ": " ++ mistake_words e.kind))

abbrev pub read_error_words : ReadError → List ℕ
read_error_words NoMemory = codes "there is too little memory"
read_error_words (Wrong e) = error_words e

-- something is wrong on a line, counted from 1
abbrev pub wrong_at : ℕ → Mistake → ScriptError
wrong_at k m = record { line = k; kind = m }
