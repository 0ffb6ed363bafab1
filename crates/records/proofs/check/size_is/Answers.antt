use Rattle.std.proofs.Common.{w64, to_z, of_z}
use Rattle.std.proofs.lemmas.Int.{to_z-of_z}
use Rattle.records.proofs.Checking.{size_told}
use Rattle.records.proofs.check.size_is.Goals as goal

pub returns : goal.returns
returns c =
    size_told c.args.size c.args.told (to_z w64 (of_z w64 c.args.told)) c.try_from.result _ c.eq.result c.ranges.told (to_z-of_z w64 c.args.told c.ranges.told) c.try_from.ensures c.eq.ensures
