-- A run of the worked file, as an instance of the law with its conclusion computed.
use Rattle.std.specs.Prelude.{◌≡◌, ℕ, true, false, List, [], ◌∷◌, Ok, Err, codes}
use Rattle.faults.specs.declared.reason.Reason.TheVariants.{NoUpdate}
use Rattle.faults.specs.Faults.{refused}
use Rattle.format.specs.Account.{Event, file_of, objects_at, left_for}
use Rattle.format.specs.Book.{Phase, standing, Moment, Call, begin, put, remove, commit, back}
use Rattle.format.specs.Bytes.{Bytes}
use Rattle.format.specs.Law.{RunFrom, account_of}
use Rattle.format.specs.Updates.{body, Update}
use Rattle.format.specs.Worked.{worked_file, file2, objects1, objects2}

abbrev accepted : Call → Event
accepted c = record { call = c; answer = Ok tt }

abbrev pub gates : Update
gates = (2, body (codes "(gate)")) ∷ (3, body (codes "7")) ∷ []

-- Two puts, a removal and a reuse are committed; a removal without an update is refused; then the book goes back to revision 2.
abbrev pub worked_calls : List Event
worked_calls =
    accepted begin
    ∷ accepted (put false 3 (codes "7"))
    ∷ accepted (put false 2 (codes "(gate)"))
    ∷ accepted (commit false)
    ∷ accepted begin
    ∷ accepted (remove false 2)
    ∷ accepted (commit false)
    ∷ record { call = remove true 3; answer = Err (refused NoUpdate 3) }
    ∷ accepted begin
    ∷ accepted (put false 2 (codes "(weir)"))
    ∷ accepted (commit false)
    ∷ accepted (back 2)
    ∷ []

abbrev pub at : Phase → Bytes → ℕ → Moment
at p file space = record { store = record { bytes = file; space = space }; phase = p }

-- The run over a flat store of 1,000 bytes, and what the law says of it: one opening revision is kept, one update is held,
-- the file is the opening bytes with that update behind them, and both revisions show what was left.
pub record WorkedRun : Type 0 where
  pub runs : RunFrom worked_file 819 worked_calls (at standing file2 644)
  pub kept : (account_of worked_file worked_calls).kept ≡ 1
  pub held : (account_of worked_file worked_calls).held ≡ gates ∷ []
  pub file : file_of worked_file (account_of worked_file worked_calls) ≡ file2
  pub left1 : left_for worked_file (account_of worked_file worked_calls) 1 ≡ objects1
  pub left2 : left_for worked_file (account_of worked_file worked_calls) 2 ≡ objects2
  pub shows1 : objects_at file2 1 ≡ objects1
  pub shows2 : objects_at file2 2 ≡ objects2
