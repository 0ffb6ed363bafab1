use Rattle.locality.proofs.Frames.{frame_local}
use Rattle.locality.proofs.Places.{reached}
use Rattle.locality.proofs.Streams.{body_counts, body_local}
use Rattle.locality.proofs.reading.frames_are_local.Goals as goal

pub returns : goal.returns
returns c = record {
  bodies = λ p xs o q rest e.
      let h = body_local p xs o q rest e in
      record { taken = h.loc.pre; edged = h.edged; parts = h.loc.parts; ends = reached p xs q h.loc.pre rest h.loc.parts (body_counts p xs o q rest e); fits = h.had; again = h.loc.again };
  frames = frame_local;
}
