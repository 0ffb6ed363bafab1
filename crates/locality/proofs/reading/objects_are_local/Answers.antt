use Rattle.locality.proofs.Places.{reached, object_counts}
use Rattle.locality.proofs.Objects.{object_local}
use Rattle.locality.proofs.Decimals.{int_token}
use Rattle.locality.proofs.reading.objects_are_local.Goals as goal

pub returns : goal.returns
returns c d p xs o q rest e =
    let z = int_token in
    let h = object_local d p xs o q rest e in
    record { taken = h.loc.pre; parts = h.loc.parts; ends = reached p xs q h.loc.pre rest h.loc.parts (object_counts d p xs o q rest e); fits = h.had; again = h.loc.again }
