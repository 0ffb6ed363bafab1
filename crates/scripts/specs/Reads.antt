-- What reading a whole script answers.
use Rattle.std.specs.Prelude.{◌≡◌, true, false, List, is_some, Ok, Err, Result}
use Rattle.format.specs.Bytes.{Bytes}
use Rattle.format.specs.Revisions.{find}
use Rattle.format.specs.Updates.{Update, with_change}
use Rattle.scripts.specs.declared.error.Mistake.TheVariants.{NumberAgain}
use Rattle.scripts.specs.declared.error.ReadError.{ReadError}
use Rattle.scripts.specs.declared.error.ReadError.TheVariants.{NoMemory, Wrong}
use Rattle.scripts.specs.declared.found.Found.{Found}
use Rattle.scripts.specs.declared.reader.Reader.{Reader}
use Rattle.scripts.specs.declared.script.Script.{Script}
use Rattle.scripts.specs.Errors.{wrong_at}
use Rattle.scripts.specs.Readers.{spelled_change}
use Rattle.scripts.specs.Rows.{rows_of}
use Rattle.scripts.specs.Scripts.{Item, between, read_script}
use Rattle.scripts.specs.Walks.{said_at}

-- what a script says from where a reader stands
abbrev pub said_from : Reader → List Item
said_from r = said_at between r.at

-- the update that a script in memory is
abbrev pub update_of : Script → Update
update_of s = rows_of s.changes.entries

-- want of memory, or just what is wrong in the script
abbrev pub NotRead : Bytes → ReadError → Type 0
NotRead src NoMemory = Unit {0}
NotRead src (Wrong e) = read_script src ≡ Err e

abbrev pub ReadAs : Bytes → Result Script ReadError → Type 0
ReadAs src (Ok s) = read_script src ≡ Ok (update_of s)
ReadAs src (Err e) = NotRead src e

-- the change found is added to an update, unless its number has one
abbrev pub NotAdded : Update → Found → ReadError → Type 0
NotAdded u f NoMemory = Unit {0}
NotAdded u f (Wrong e) = (is_some (find f.number u) ≡ true) × (e ≡ wrong_at f.line NumberAgain)

abbrev pub Added : {U : Type 0} → Update → Found → Result U ReadError → Update → Type 0
Added u f (Ok x) v = (is_some (find f.number u) ≡ false) × (v ≡ with_change f.number (spelled_change f.change) u)
Added u f (Err e) v = NotAdded u f e
