-- The calls of the code as the format's rules have them.
use Rattle.std.specs.Prelude.{◌≡◌, ℕ, Bool, true, false, not, Err}
use Rattle.faults.specs.declared.fault.Fault.{Fault}
use Rattle.faults.specs.declared.reason.Reason.{Reason}
use Rattle.faults.specs.declared.reason.Reason.TheVariants.{BookShut, OpenAlready, UpdateOpen, NoUpdate, SlipSpent}
use Rattle.stores.specs.Meanings.{Meaning}
use Rattle.format.specs.Updates.{Update}
use Rattle.format.specs.Book as format
use Rattle.book.specs.declared.call.Phase.{Phase}
use Rattle.book.specs.declared.call.Phase.TheVariants.{Shut, Standing, Updating}
use Rattle.book.specs.declared.call.Call.{Call}
use Rattle.book.specs.declared.call.Call.TheVariants.{Open, Begin, Put, Remove, Commit, Abandon, Back}

-- the state of a book that holds these changes
abbrev pub phase_of : Phase → Update → format.Phase
phase_of Shut u = format.shut
phase_of Standing u = format.standing
phase_of Updating u = format.updating u

abbrev pub call_of : Call → format.Call
call_of Open = format.open_file
call_of Begin = format.begin
call_of (Put x n b) = format.put x n b.now
call_of (Remove x n) = format.remove x n
call_of (Commit x) = format.commit x
call_of (Abandon x) = format.abandon x
call_of (Back k) = format.back k

-- the number that a call names, 0 if none
abbrev pub number_of : Call → ℕ
number_of Open = 0
number_of Begin = 0
number_of (Put x n b) = n
number_of (Remove x n) = n
number_of (Commit x) = 0
number_of (Abandon x) = 0
number_of (Back k) = 0

-- whether a call is shown a spent slip
abbrev pub shows_spent : Call → Bool
shows_spent Open = false
shows_spent Begin = false
shows_spent (Put x n b) = x
shows_spent (Remove x n) = x
shows_spent (Commit x) = x
shows_spent (Abandon x) = x
shows_spent (Back k) = false

-- which calls a state allows: in an update only with a slip that is not spent
abbrev pub allows : Phase → Call → Bool
allows Shut Open = true
allows Shut Begin = false
allows Shut (Put x n b) = false
allows Shut (Remove x n) = false
allows Shut (Commit x) = false
allows Shut (Abandon x) = false
allows Shut (Back k) = false
allows Standing Open = false
allows Standing Begin = true
allows Standing (Put x n b) = false
allows Standing (Remove x n) = false
allows Standing (Commit x) = false
allows Standing (Abandon x) = false
allows Standing (Back k) = true
allows Updating Open = false
allows Updating Begin = false
allows Updating (Put x n b) = not x
allows Updating (Remove x n) = not x
allows Updating (Commit x) = not x
allows Updating (Abandon x) = not x
allows Updating (Back k) = false

-- what stands in the way of a call in a state that does not allow it
abbrev pub standing_obstacle : Call → Reason
standing_obstacle Open = OpenAlready
standing_obstacle Begin = NoUpdate
standing_obstacle (Put x n b) = NoUpdate
standing_obstacle (Remove x n) = NoUpdate
standing_obstacle (Commit x) = NoUpdate
standing_obstacle (Abandon x) = NoUpdate
standing_obstacle (Back k) = NoUpdate

abbrev pub updating_obstacle : Call → Reason
updating_obstacle Open = OpenAlready
updating_obstacle Begin = UpdateOpen
updating_obstacle (Put x n b) = SlipSpent
updating_obstacle (Remove x n) = SlipSpent
updating_obstacle (Commit x) = SlipSpent
updating_obstacle (Abandon x) = SlipSpent
updating_obstacle (Back k) = UpdateOpen

abbrev pub obstacle : Phase → Call → Reason
obstacle Shut c = BookShut
obstacle Standing c = standing_obstacle c
obstacle Updating c = updating_obstacle c

-- the fault of a call that the state does not allow, whatever the store means and the update holds
abbrev pub Refuses : Phase → Call → Fault → Type 0
Refuses p c f = allows p c ≡ false → (s : Meaning) (u : Update) → format.decide s (phase_of p u) (call_of c) ≡ Err f
