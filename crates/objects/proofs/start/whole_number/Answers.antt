use Rattle.std.proofs.Common.{◌∙◌, w64, SFits, rules}
use Rattle.std.proofs.lemmas.Int.{to_z-of_z}
use Rattle.objects.proofs.Starts.{counts_ref, counts_int}
use Rattle.objects.proofs.start.whole_number.Goals as goal

pub returns-in-Some : goal.returns-in-Some
returns-in-Some c = counts_ref _ _ _ _ _ c.in-Some.ensures.is

pub returns-in-None : goal.returns-in-None
returns-in-None c =
    let fits : SFits w64 c.from.result = search rules in
    counts_int _ _ _ _ _ c.in-None.ensures.is (to_z-of_z w64 c.from.result fits ∙ c.from.ensures) c.args.behind.within
