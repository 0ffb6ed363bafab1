-- What a script says, and the script of an update.
use Rattle.std.specs.Prelude.{ℕ, suc, true, false, List, [], ◌∷◌, ◌++◌, is_some, Some, None, Ok, Err, codes, Result}
use Rattle.format.specs.Bytes.{Bytes}
use Rattle.format.specs.Revisions.{find}
use Rattle.format.specs.Updates.{Change, body, removed, Update, with_change}
use Rattle.format.specs.Writing.{decimal}
use Rattle.scripts.specs.declared.error.Mistake.TheVariants.{NumberAgain, NoEnd}
use Rattle.scripts.specs.declared.error.ScriptError.{ScriptError}
use Rattle.scripts.specs.declared.line.BodyLine.TheVariants.{Text, End}
use Rattle.scripts.specs.declared.line.Head.TheVariants.{Remove, Put}
use Rattle.scripts.specs.Dots.{dotted, undotted, without_last}
use Rattle.scripts.specs.Errors.{wrong_at}
use Rattle.scripts.specs.Lines.{lines_of, head_of, body_line_of}

-- what a script says, one after the other: a change, with the line that it starts on; or that something is wrong, where it says no more
pub data Item : Type 0 where
  change : (line number : ℕ) → Change → Item
  stop : ScriptError → Item

-- where in a script a line stands: between changes; or in the body that the line `start` put under a number, behind lines that have this text, each with its LF
pub data Where : Type 0 where
  between : Where
  inside : (start number : ℕ) → (text : Bytes) → Where

-- what lines say, the first of which is the k-th
unfoldable pub items_of : Where → (k : ℕ) → List Bytes → List Item
items_of between k [] = []
items_of between k (l ∷ ls) =
    elim (head_of l) [
      | Ok None ↦ items_of between (suc k) ls
      | Ok (Some (Remove n)) ↦ change k n removed ∷ items_of between (suc k) ls
      | Ok (Some (Put n)) ↦ items_of (inside k n []) (suc k) ls
      | Err m ↦ stop (wrong_at k m) ∷ []
    ]
items_of (inside s n t) k [] = stop (wrong_at s NoEnd) ∷ []
items_of (inside s n t) k (l ∷ ls) =
    elim (body_line_of l) [
      | Ok Text ↦ items_of (inside s n (t ++ (l ++ (10 ∷ [])))) (suc k) ls
      | Ok End ↦ change s n (body (undotted (without_last t))) ∷ items_of between (suc k) ls
      | Err m ↦ stop (wrong_at k m) ∷ []
    ]

-- what a script says from its first line on
unfoldable pub said_by : Bytes → List Item
said_by s = items_of between 1 (lines_of s)

-- the update that the items make of one, a change a number
unfoldable pub gathered : List Item → Update → Result Update ScriptError
gathered [] u = Ok u
gathered (change k n c ∷ is) u =
    elim (is_some (find n u)) [
      | true ↦ Err (wrong_at k NumberAgain)
      | false ↦ gathered is (with_change n c u)
    ]
gathered (stop e ∷ is) u = Err e

-- the update that a script stands for, or the first that is wrong in it
unfoldable pub read_script : Bytes → Result Update ScriptError
read_script s = gathered (said_by s) []

-- a change as a script has it
unfoldable pub change_bytes : ℕ → Change → Bytes
change_bytes n removed = codes "remove " ++ (decimal n ++ (10 ∷ []))
change_bytes n (body b) = codes "put " ++ (decimal n ++ (10 ∷ (dotted b ++ codes "\n.\n")))

-- the script of an update, its changes in their order
unfoldable pub print_script : Update → Bytes
print_script [] = []
print_script (r ∷ rs) = change_bytes r.0 r.1 ++ print_script rs

-- what a proof by computation unfolds
unfoldable pub computes_scripts : Unit {0}
unfolding items_of said_by gathered read_script change_bytes print_script
computes_scripts = tt
