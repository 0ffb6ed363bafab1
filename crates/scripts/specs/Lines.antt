-- The lines of a script, what a line between changes says, and what a line of a body is.
use Rattle.std.specs.Prelude.{ℕ, true, false, List, [], ◌∷◌, Some, None, Ok, Err, codes, Option, Result, ◌==◌}
use Rattle.format.specs.Bytes.{Bytes}
use Rattle.format.specs.Frames.{behind}
use Rattle.format.specs.Lines.{Piece, took, short, misfit, digits}
use Rattle.scripts.specs.declared.error.Mistake.{Mistake}
use Rattle.scripts.specs.declared.error.Mistake.TheVariants.{NoChange, BadNumber, SingleDot}
use Rattle.scripts.specs.declared.line.BodyLine.{BodyLine}
use Rattle.scripts.specs.declared.line.BodyLine.TheVariants.{Text, End}
use Rattle.scripts.specs.declared.line.Head.{Head}
use Rattle.scripts.specs.declared.line.Head.TheVariants.{Remove, Put}

-- one byte more at the front of the first line
abbrev pub on_first : ℕ → List Bytes → List Bytes
on_first x [] = (x ∷ []) ∷ []
on_first x (l ∷ ls) = (x ∷ l) ∷ ls

-- LF ends a line; the last line may lack it
unfoldable pub lines_of : Bytes → List Bytes
lines_of [] = []
lines_of (x ∷ xs) = elim (x == 10) [ true ↦ [] ∷ lines_of xs | false ↦ on_first x (lines_of xs) ]

-- digits that nothing follows
unfoldable pub whole : Piece ℕ → Option ℕ
whole (took n p []) = Some n
whole (took n p (x ∷ xs)) = None
whole short = None
whole misfit = None

-- one to ten decimal digits, and nothing else
unfoldable pub number_of : Bytes → Option ℕ
number_of xs = whole (digits 0 xs)

-- a line that starts a change of this kind, if a number stands there
unfoldable pub numbered : (kind : ℕ → Head) → Option ℕ → Result Head Mistake
numbered kind (Some n) = Ok (kind n)
numbered kind None = Err BadNumber

-- what follows `remove `, if that word stands there
unfoldable pub remove_of : Option Bytes → Result Head Mistake
remove_of (Some ds) = numbered (λ n. Remove n) (number_of ds)
remove_of None = Err NoChange

-- what follows `put `, if that word stands there
unfoldable pub put_of : Bytes → Option Bytes → Result Head Mistake
put_of l (Some ds) = numbered (λ n. Put n) (number_of ds)
put_of l None = remove_of (behind (codes "remove ") l)

-- a line that says something
unfoldable pub saying : Result Head Mistake → Result (Option Head) Mistake
saying (Ok h) = Ok (Some h)
saying (Err m) = Err m

-- what a line between changes says: nothing, where it is empty or starts with #
unfoldable pub head_of : Bytes → Result (Option Head) Mistake
head_of [] = Ok None
head_of (x ∷ xs) = elim (x == 35) [ true ↦ Ok None | false ↦ saying (put_of (x ∷ xs) (behind (codes "put ") (x ∷ xs))) ]

-- a line that starts with a dot
unfoldable pub after_dot : Bytes → Result BodyLine Mistake
after_dot [] = Ok End
after_dot (x ∷ xs) = elim (x == 46) [ true ↦ Ok Text | false ↦ Err SingleDot ]

-- what a line of a body is: its end, where it is just a dot; not allowed, where it starts with one dot; else text
unfoldable pub body_line_of : Bytes → Result BodyLine Mistake
body_line_of [] = Ok Text
body_line_of (x ∷ xs) = elim (x == 46) [ true ↦ after_dot xs | false ↦ Ok Text ]

-- what a proof by computation unfolds
unfoldable pub computes_script_lines : Unit {0}
unfolding lines_of whole number_of numbered remove_of put_of saying head_of after_dot body_line_of
computes_script_lines = tt
