use Rattle.std.proofs.Common.{◌≡◌, ◌+◌, ◌-◌, ◌*◌, ◌≤◌, false, cond, length}
use Rattle.format.specs.Strings.{turns}
use Rattle.format.specs.Objects.{items, no_entries}
use Rattle.objects.specs.Extents.{read_by, entries_by, find}
use Rattle.lexer.specs.Spelled.{spelled}
use Rattle.objects.specs.Steps.{bare, rest_of}
use Rattle.objects.proofs.Turns.{Elements, Entered, Walking}
use Rattle.objects.proofs.read.+nested.Given as goal

abbrev pub decreases-find_value : goal.decreases-find_value
decreases-find_value l = 3 * l.depth + 2

abbrev pub decreases-read_array : goal.decreases-read_array
decreases-read_array l = cond l.reading.check 1024 0 + (3 * l.reading.depth + 2)

abbrev pub decreases-read_dictionary : goal.decreases-read_dictionary
decreases-read_dictionary l = cond l.reading.check 1024 0 + (3 * l.reading.depth + 2)

abbrev pub decreases-read_value : goal.decreases-read_value
decreases-read_value l = cond l.reading.check 1024 0 + (3 * l.reading.depth + 1)

abbrev pub decreases-read_object : goal.decreases-read_object
decreases-read_object l = cond l.reading.check 1024 0 + 3 * l.reading.depth

abbrev pub invariant-read_array-elements : goal.invariant-read_array-elements
invariant-read_array-elements l =
    (l.first.place ≤ l.at.place) × (l.at.src.now ≡ l.first.src.now)
    × Elements (read_by l.reading.check l.reading.depth) l.at.src.now l.at.place (bare (items (read_by l.reading.check l.reading.depth) turns l.first.place (rest_of l.first)))

abbrev pub decreases-read_array-elements : goal.decreases-read_array-elements
decreases-read_array-elements l = length l.at.src.now - l.at.place

abbrev pub invariant-read_dictionary-entries : goal.invariant-read_dictionary-entries
invariant-read_dictionary-entries l =
    (l.first.place ≤ l.at.place) × (l.at.src.now ≡ l.first.src.now)
    × Entered l.reading.check l.reading.depth l.at.src.now l.first.place l.at.place (bare (entries_by l.reading.check (read_by l.reading.check l.reading.depth) turns no_entries l.first.place (rest_of l.first)))

abbrev pub decreases-read_dictionary-entries : goal.decreases-read_dictionary-entries
decreases-read_dictionary-entries l = length l.at.src.now - l.at.place

abbrev pub invariant-find_value-walk : goal.invariant-find_value-walk
invariant-find_value-walk l = Walking (read_by false l.depth) l.at.src.now (spelled l.name) l.stop l.at.place (find (read_by false l.depth) turns (spelled l.name) l.stop l.first.place (rest_of l.first))

abbrev pub decreases-find_value-walk : goal.decreases-find_value-walk
decreases-find_value-walk l = length l.at.src.now - l.at.place
