-- How each command is written.
use Rattle.std.specs.Prelude.{◌≡◌, ℕ, List, [], ◌∷◌, Ok, Err, codes, Result}
use Rattle.reports.specs.Numbers.{NumberIn}
use Rattle.reports.specs.declared.command.Command.{Command}
use Rattle.reports.specs.declared.command.Command.TheVariants.{Help, List as ListOf, Check, Show, Extract, Diff}
use Rattle.reports.specs.declared.command.Usage.{Usage}

-- what a command line can ask for
pub data Order : Type 0 where
  ask_help : Order
  ask_list : (file : List ℕ) → Order
  ask_check : (file : List ℕ) → Order
  ask_show : (file : List ℕ) → (revision number : ℕ) → Order
  ask_extract : (file : List ℕ) → (revision : ℕ) → (out : List ℕ) → Order
  ask_diff : (file : List ℕ) → (earlier later : ℕ) → Order

-- the words that ask for it
abbrev pub Says : Order → List (List ℕ) → Type 0
Says ask_help ws = ws ≡ codes "help" ∷ []
Says (ask_list file) ws = ws ≡ codes "list" ∷ (file ∷ [])
Says (ask_check file) ws = ws ≡ codes "check" ∷ (file ∷ [])
Says (ask_show file k n) ws = (a : List ℕ) × (b : List ℕ) × (ws ≡ codes "show" ∷ (file ∷ (a ∷ (b ∷ [])))) × NumberIn k a × NumberIn n b
Says (ask_extract file k out) ws = (a : List ℕ) × (ws ≡ codes "extract" ∷ (file ∷ (a ∷ (out ∷ [])))) × NumberIn k a
Says (ask_diff file j k) ws = (a : List ℕ) × (b : List ℕ) × (ws ≡ codes "diff" ∷ (file ∷ (a ∷ (b ∷ [])))) × NumberIn j a × NumberIn k b

abbrev pub order_of : Command → Order
order_of Help = ask_help
order_of (ListOf f) = ask_list f.now
order_of (Check f) = ask_check f.now
order_of (Show f k n) = ask_show f.now k n
order_of (Extract f k o) = ask_extract f.now k o.now
order_of (Diff f j k) = ask_diff f.now j k

-- the command that the words ask for, or they ask for none
abbrev pub Parsed : List (List ℕ) → Result Command Usage → Type 0
Parsed ws (Ok c) = Says (order_of c) ws
Parsed ws (Err u) = (o : Order) → Says o ws → ⊥
