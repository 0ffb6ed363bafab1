-- The examples, from the computed openings.
use Rattle.std.proofs.Common.{◌≡◌, take, Ok, Err, refl}
use Rattle.faults.specs.declared.reason.Reason.TheVariants.{ChainRule}
use Rattle.format.proofs.Computed.{computes}
use Rattle.format.specs.Book.{history}
use Rattle.format.specs.Failures.{chain_fault}
use Rattle.format.specs.Revisions.{opens}
use Rattle.format.specs.Worked.{worked_file, file4}
use Rattle.rules.specs.Examples.{wrong_root, WorkedRules}
use Rattle.rules.proofs.Accepts.{rules_hold}
use Rattle.rules.proofs.Refuses.{refused_breach}

one_opens : opens worked_file ≡ Ok (record { header = take 8 worked_file; history = history worked_file })
unfolding computes
one_opens = refl

four_opens : opens file4 ≡ Ok (record { header = take 8 file4; history = history file4 })
unfolding computes
four_opens = refl

wrong_refused : opens wrong_root ≡ Err (chain_fault ChainRule 59 1)
unfolding computes
wrong_refused = refl

pub worked_rules : WorkedRules
worked_rules = record {
  one = (rules_hold worked_file (record { header = take 8 worked_file; history = history worked_file }) one_opens).0;
  four = (rules_hold file4 (record { header = take 8 file4; history = history file4 }) four_opens).0;
  broken = refused_breach wrong_root (chain_fault ChainRule 59 1) wrong_refused;
}
