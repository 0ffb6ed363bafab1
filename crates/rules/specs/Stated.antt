-- What is proved of opening: it accepts a file exactly where the rules hold, and answers the first breach exactly where they do not.
use Rattle.std.specs.Prelude.{◌≡◌, ◌⊎◌, List, take, Ok, Err}
use Rattle.faults.specs.declared.fault.Fault.{Fault}
use Rattle.format.specs.Bytes.{Bytes}
use Rattle.format.specs.Revisions.{Revision, Opened, opens}
use Rattle.rules.specs.Breaches.{FirstBreach}
use Rattle.rules.specs.Rules.{Rules}

-- A file opens as these revisions exactly when all the rules hold of the file and them; the header is its first 8 bytes.
pub record AcceptsByRules : Type 0 where
  pub accepted : (file : Bytes) (o : Opened) → opens file ≡ Ok o → Rules file o.history × (o.header ≡ take 8 file)
  pub accepts : (file : Bytes) (o : Opened) → Rules file o.history → o.header ≡ take 8 file → opens file ≡ Ok o

-- A file is refused with a fault exactly when that is the fault of its first breach.
pub record RefusesFirstBreach : Type 0 where
  pub refused : (file : Bytes) (f : Fault) → opens file ≡ Err f → FirstBreach file f
  pub refuses : (file : Bytes) (f : Fault) → FirstBreach file f → opens file ≡ Err f

-- Of every file, either the rules hold of it and some revisions, or it has a first breach; never both; and there is one history, or one fault.
pub record DecidesEveryFile : Type 0 where
  pub decided : (file : Bytes) → ((revisions : List Revision) × Rules file revisions) ⊎ ((f : Fault) × FirstBreach file f)
  pub never_both : (file : Bytes) (revisions : List Revision) (f : Fault) → Rules file revisions → FirstBreach file f → ⊥
  pub one_history : (file : Bytes) (rs qs : List Revision) → Rules file rs → Rules file qs → rs ≡ qs
  pub one_fault : (file : Bytes) (f g : Fault) → FirstBreach file f → FirstBreach file g → f ≡ g
