-- What is read from a place of a script on.
use Rattle.std.specs.Prelude.{◌≡◌, ℕ, suc, ◌+◌, ◌-◌, ◌^◌, ◌<◌, ◌≤◌, ◌⊎◌, List, [], ◌∷◌, ◌++◌, length, take, drop, Some, None, Ok, Err, Option, Result}
use Rattle.std.specs.Borrow.{Bor}
use Rattle.format.specs.Bytes.{Bytes}
use Rattle.format.specs.Updates.{body, removed}
use Rattle.scripts.specs.declared.cursor.Cursor.{Cursor}
use Rattle.scripts.specs.declared.error.ScriptError.{ScriptError}
use Rattle.scripts.specs.declared.line.Head.{Head}
use Rattle.scripts.specs.declared.line.Head.TheVariants.{Remove, Put}
use Rattle.scripts.specs.Dots.{undotted}
use Rattle.scripts.specs.Lines.{lines_of}
use Rattle.scripts.specs.Scripts.{Item, change, stop, Where, between, inside, items_of}

-- the bytes from one place up to another
abbrev pub part : Bytes → (from to : ℕ) → Bytes
part src from to = take (to - from) (drop from src)

-- the line that starts at a place, and the place of the next
pub record LineAt (src : Bytes) (from : ℕ) (line : Bytes) (next : ℕ) : Type 0 where
  pub moves : from < next
  pub inside : next ≤ length src
  pub is : lines_of (drop from src) ≡ line ∷ lines_of (drop next src)
  -- it ends in LF, or the script ends
  pub text : (part src from next ≡ line ++ (10 ∷ [])) ⊎ (length src ≤ next)

-- what a script says from a place on, behind so many lines
abbrev pub said : Where → Bytes → (place lines : ℕ) → List Item
said w src place lines = items_of w (suc lines) (lines_of (drop place src))

-- what it says from a cursor on
abbrev pub said_at : Where → Cursor → List Item
said_at w c = said w c.src.now c.place c.lines

-- a line was read
pub record LineRead (was : Cursor) (line : Bytes) (is : Cursor) : Type 0 where
  pub same : is.src.now ≡ was.src.now
  pub counted : is.lines ≡ was.lines + 1
  pub at : LineAt was.src.now was.place line is.place

-- the next line, if there is one
abbrev pub NextLine : Cursor → Option (Bor Bytes) → Cursor → Type 0
NextLine was None is = length was.src.now ≤ was.place
NextLine was (Some line) is = LineRead was line.now is

-- the next line that says something, if there is one, or what is wrong in it
abbrev pub HeadRead : Cursor → Result (Option Head) ScriptError → Cursor → Type 0
HeadRead was (Ok None) is = said_at between was ≡ []
HeadRead was (Ok (Some (Remove n))) is = (said_at between was ≡ change is.lines n removed ∷ said_at between is) × (n < 10 ^ 10)
HeadRead was (Ok (Some (Put n))) is = (said_at between was ≡ said_at (inside is.lines n []) is) × (n < 10 ^ 10)
HeadRead was (Err e) is = said_at between was ≡ stop e ∷ []

-- the text of the body that the line before put, whatever its number, or what is wrong in it
abbrev pub BodyRead : Cursor → Result (Bor Bytes) ScriptError → Cursor → Type 0
BodyRead was (Ok text) is =
    (n : ℕ) → said_at (inside was.lines n []) was ≡ change was.lines n (body (undotted text.now)) ∷ said_at between is
BodyRead was (Err e) is = (n : ℕ) → said_at (inside was.lines n []) was ≡ stop e ∷ []
