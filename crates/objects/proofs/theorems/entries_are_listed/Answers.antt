use Rattle.objects.proofs.EntryByEntry.{lists}
use Rattle.objects.proofs.theorems.entries_are_listed.Goals as goal

pub returns : goal.returns
returns c = lists
