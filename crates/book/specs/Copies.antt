-- Bytes copied from one store to another.
use Rattle.std.specs.Prelude.{◌≡◌, ℕ, ◌-◌, ◌<◌, ◌≤◌, List, ◌++◌, length, Ok, Err, Result}
use Rattle.faults.specs.declared.fault.Fault.{Fault}
use Rattle.faults.specs.declared.reason.Reason.TheVariants.{ShortBuffer}
use Rattle.faults.specs.Faults.{refused}
use Rattle.format.specs.Questions.{fill_start}
use Rattle.stores.specs.Meanings.{Meaning}

-- the bytes are joined behind, and the space has fallen by as many
pub record Grown (was : Meaning) (more : List ℕ) (is : Meaning) : Type 0 where
  pub bytes : is.bytes ≡ was.bytes ++ more
  pub space : is.space ≡ was.space - length more

-- a body of that length of the number n, laid into a buffer; a buffer that is too short keeps its bytes
abbrev pub BodyInto : List ℕ → (len n : ℕ) → List ℕ → Result ℕ Fault → List ℕ → Type 0
BodyInto b len n was (Ok r) is = (len ≤ length was) × (r ≡ len) × (is ≡ fill_start b was)
BodyInto b len n was (Err f) is = (length was < len) × (f ≡ refused ShortBuffer n) × (is ≡ was)
