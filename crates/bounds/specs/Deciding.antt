-- What a commit decides, by the numbers that code has in hand.
use Rattle.std.specs.Prelude.{◌≡◌, ℕ, ◌+◌, ◌-◌, ◌<◌, ◌≤◌, length, Ok, Err}
use Rattle.faults.specs.declared.reason.Reason.TheVariants.{NoChanges, PastLimits, NoSpace}
use Rattle.faults.specs.Faults.{refused}
use Rattle.stores.specs.Meanings.{Meaning}
use Rattle.format.specs.Book.{history, newest, addition, decide_commit}
use Rattle.format.specs.Bytes.{Bytes}
use Rattle.format.specs.Updates.{Update}
use Rattle.format.specs.Writing.{new_size, update_objects}

-- how many bytes an update adds to a file, and how many of them are its objects'; the others are its section's
abbrev pub bytes_added : Bytes → Update → ℕ
bytes_added file u = length (addition file u)

abbrev pub objects_added : Bytes → Update → ℕ
objects_added file u = length (update_objects (length file) (newest file) u)

-- the update u is within the limits of the file, each by its number
pub record KeepsLimits (file : Bytes) (u : Update) : Type 0 where
  pub revisions : length (history file) < 64
  pub size : new_size (newest file) u ≤ 1000
  pub whole : length file + bytes_added file u ≤ 9999999
  pub section : bytes_added file u - objects_added file u ≤ 32768

-- what the commit of an update decides, way by way
pub record DecidedByNumbers (s : Meaning) (u : Update) : Type 0 where
  pub objects : objects_added s.bytes u ≤ bytes_added s.bytes u
  pub nothing : length u ≡ 0 → decide_commit s u ≡ Err (refused NoChanges 0)
  pub many : 1 ≤ length u → 64 ≤ length (history s.bytes) → decide_commit s u ≡ Err (refused PastLimits 0)
  pub high : 1 ≤ length u → 1000 < new_size (newest s.bytes) u → decide_commit s u ≡ Err (refused PastLimits 0)
  pub long : 1 ≤ length u → 9999999 < length s.bytes + bytes_added s.bytes u → decide_commit s u ≡ Err (refused PastLimits 0)
  pub wide : 1 ≤ length u → 32768 < bytes_added s.bytes u - objects_added s.bytes u → decide_commit s u ≡ Err (refused PastLimits 0)
  pub full : 1 ≤ length u → KeepsLimits s.bytes u → s.space < bytes_added s.bytes u → decide_commit s u ≡ Err (refused NoSpace 0)
  pub accepted : 1 ≤ length u → KeepsLimits s.bytes u → bytes_added s.bytes u ≤ s.space → decide_commit s u ≡ Ok tt

abbrev pub CommitsDecidedByNumbers : Type 0
CommitsDecidedByNumbers = (s : Meaning) (u : Update) → DecidedByNumbers s u
