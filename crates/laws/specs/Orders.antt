-- An update is a set of changes: the order in which they were made does not matter.
use Rattle.std.specs.Prelude.{◌≡◌, ℕ, false, is_ok, ◌≢◌}
use Rattle.format.specs.Account.{Account, Event, after_event}
use Rattle.format.specs.Bytes.{Bytes}
use Rattle.format.specs.Updates.{Change, Update, with_change}

-- Changes of two numbers, made in either order, are one update.
abbrev pub ChangesInAnyOrder : Type 0
ChangesInAnyOrder =
    (n m : ℕ) (c d : Change) (u : Update) → (n ≢ m) → with_change n c (with_change m d u) ≡ with_change m d (with_change n c u)

-- A refused call leaves the account as it was.
abbrev pub RefusedCallsAlterNothing : Type 0
RefusedCallsAlterNothing = (opening : Bytes) (a : Account) (e : Event) → is_ok e.answer ≡ false → after_event opening a e ≡ a
