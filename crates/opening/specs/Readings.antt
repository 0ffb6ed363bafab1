-- What a reader of more than a line answers, as the definitions say it.
use Rattle.std.specs.Prelude.{◌≡◌, ℕ, ◌+◌, ◌≤◌, length, drop, IfOk, Ok, Err, Result}
use Rattle.faults.specs.declared.fault.Fault.{Fault}
use Rattle.format.specs.Bytes.{Bytes, Got, ok, bad, then}

-- an answer, its value seen in a way
abbrev pub seen_as : {A B : Type 0} → (A → B) → Got A → Got B
seen_as view g = then g (λ a p xs. ok (view a) p xs)

-- the answer of code whose window src begins at the place base: its value, and the place behind
abbrev pub got_by : {T B : Type 0} → (value : T → B) → (place : T → ℕ) → (base : ℕ) → Bytes → Result T Fault → Got B
got_by value place base src (Ok x) = ok (value x) (base + place x) (drop (place x) src)
got_by value place base src (Err f) = bad f

-- what starts at `from` of the window src was read: the code's answer is the one that is defined, and its place lies from there on, in the bytes
pub record Reads {A B T : Type 0} (view : A → B) (got : Got A) (value : T → B) (place : T → ℕ) (base : ℕ) (src : Bytes) (from : ℕ) (r : Result T Fault) : Type 0 where
  pub is : seen_as view got ≡ got_by value place base src r
  pub within : IfOk r (λ x. (from ≤ place x) × (place x ≤ length src))
