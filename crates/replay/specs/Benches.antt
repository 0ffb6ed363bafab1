-- What a line does to the stores on the bench.
use Rattle.std.specs.Prelude.{◌≡◌, ℕ, ◌⊎◌, List, Err, Result}
use Rattle.replay.specs.Calls.{Answer, Plain}
use Rattle.replay.specs.Commands.{Written}
use Rattle.replay.specs.Piles.{Laid, Made, PileCalled}
use Rattle.replay.specs.Readings.{ReadAs}
use Rattle.replay.specs.declared.answer.Setback.{Setback}
use Rattle.replay.specs.declared.answer.Setback.TheVariants.{Trouble}
use Rattle.replay.specs.declared.command.Command.{Command}
use Rattle.replay.specs.declared.command.Command.TheVariants.{Flat, Overlay, Store, Read}
use Rattle.replay.specs.declared.pile.Pile.{Pile}
use Rattle.replay.specs.declared.trouble.Trouble as trouble

pub record Plainly (Does : Result (Unit {0}) Setback → Type 0) (r : Answer) : Type 0 where
  pub result : Result (Unit {0}) Setback
  pub does : Does result
  pub plain : Plain r result

abbrev pub Performed : Pile → Command → Answer → Pile → Type 0
Performed was (Flat space bytes) r is = Plainly (λ u. Made space bytes was u is) r
Performed was Overlay r is = Plainly (λ u. Laid was u is) r
Performed was (Store call) r is = PileCalled was call r is
Performed was (Read reading) r is = ReadAs reading r × (is ≡ was)

-- the line writes a command, which is performed
pub record Obeyed (was : Pile) (line : List ℕ) (r : Answer) (is : Pile) : Type 0 where
  pub command : Command
  pub written : Written command line
  pub performed : Performed was command r is

-- the bench could not take the line, and nothing has changed
pub record Passed (was : Pile) (r : Answer) (is : Pile) : Type 0 where
  pub why : trouble.Trouble
  pub answer : r ≡ Err (Trouble why)
  pub same : is ≡ was

abbrev pub Answered : Pile → List ℕ → Answer → Pile → Type 0
Answered was line r is = Obeyed was line r is ⊎ Passed was r is
