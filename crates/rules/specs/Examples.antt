-- The worked file keeps the rules, and with a wrong generation of Root it breaks one.
use Rattle.std.specs.Prelude.{codes}
use Rattle.faults.specs.declared.reason.Reason.TheVariants.{ChainRule}
use Rattle.format.specs.Book.{history}
use Rattle.format.specs.Bytes.{Bytes}
use Rattle.format.specs.Failures.{chain_fault}
use Rattle.format.specs.Worked.{worked_file, file4}
use Rattle.rules.specs.Breaches.{FirstBreach}
use Rattle.rules.specs.Rules.{Rules}

-- the worked file, but Root has generation 1
abbrev pub wrong_root : Bytes
wrong_root = codes "%PDF-1.4\n1 0 obj\n<</A 2 0 R>>\nendobj\n2 0 obj\n(pump)\nendobj\nxref\n0 3\n0000000000 65535 f \n0000000009 00000 n \n0000000037 00000 n \ntrailer\n<<\n/Root 1 1 R\n/Size 3\n>>\nstartxref\n59\n%%EOF\n"

-- the file of one revision, the file of four, and the first breach of the wrong one
pub record WorkedRules : Type 0 where
  pub one : Rules worked_file (history worked_file)
  pub four : Rules file4 (history file4)
  pub broken : FirstBreach wrong_root (chain_fault ChainRule 59 1)
