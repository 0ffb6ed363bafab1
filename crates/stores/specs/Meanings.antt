-- What a store means, and what its calls do to that meaning.
use Rattle.std.specs.Prelude.{◌≡◌, ℕ, ◌-◌, ◌<◌, ◌≤◌, min, List, ◌++◌, length, take, drop, Result, MatchResult}
use Rattle.faults.specs.declared.fault.Fault.{Fault}
use Rattle.faults.specs.declared.reason.Reason.{Reason}
use Rattle.faults.specs.declared.reason.Reason.TheVariants.{NoSpace, CutPastEnd}
use Rattle.faults.specs.Faults.{refused}

-- a store is the bytes that it holds, and its space: how many bytes it can still take
pub record Meaning : Type 0 where
  pub bytes : List ℕ
  pub space : ℕ

-- a refusal: the fault of that reason, and nothing has changed
pub record Kept (reason : Reason) (f : Fault) (was is : Meaning) : Type 0 where
  pub fault : f ≡ refused reason 0
  pub same : is ≡ was

-- an accepted append: there was space, the bytes are joined behind, and the space falls by as many
pub record Joined (was : Meaning) (more : List ℕ) (is : Meaning) : Type 0 where
  pub fits : length more ≤ was.space
  pub bytes : is.bytes ≡ was.bytes ++ more
  pub space : is.space ≡ was.space - length more

-- an accepted cut to n: there were that many bytes, the first n stay.
-- The space regained is the store's own figure; all that is known of it is that it is not less than the space before.
pub record Shortened (was : Meaning) (n : ℕ) (is : Meaning) : Type 0 where
  pub within : n ≤ length was.bytes
  pub bytes : is.bytes ≡ take n was.bytes
  pub regained : was.space ≤ is.space

abbrev pub Appends : Meaning → List ℕ → Result (Unit {0}) Fault → Meaning → Type 0
Appends was more r is = MatchResult r (λ _. Joined was more is) (λ f. (was.space < length more) × Kept NoSpace f was is)

abbrev pub Cuts : Meaning → ℕ → Result (Unit {0}) Fault → Meaning → Type 0
Cuts was n r is = MatchResult r (λ _. Shortened was n is) (λ f. (length was.bytes < n) × Kept CutPastEnd f was is)

-- a window read into a buffer: as many of the bytes from `from` on as there are and the buffer holds; the rest of the buffer is as it was
pub record Filled (bytes : List ℕ) (from : ℕ) (buffer : List ℕ) (count : ℕ) (after : List ℕ) : Type 0 where
  pub count_is : count ≡ min (length buffer) (length bytes - from)
  pub after_is : after ≡ take count (drop from bytes) ++ drop count buffer
