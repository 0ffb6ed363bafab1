-- The figures of the stores, and what a check answers before a store is made.
use Rattle.std.specs.Prelude.{◌≡◌, ℕ, Result, MatchResult}
use Rattle.faults.specs.declared.fault.Fault.{Fault}
use Rattle.faults.specs.declared.reason.Reason.TheVariants.{StoreLength}
use Rattle.faults.specs.Faults.{refused}

-- the most bytes that a store is made over
abbrev pub longest : ℕ
longest = 9999999

-- how many bytes an overlay takes of its own
abbrev pub tail_size : ℕ
tail_size = 4096

-- a check passes exactly where a store may be made
abbrev pub Checked : Type 0 → Result (Unit {0}) Fault → Type 0
Checked may r = MatchResult r (λ _. may) (λ f. (may → ⊥) × (f ≡ refused StoreLength 0))
