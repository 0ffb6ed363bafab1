-- A trailer that was read is read again of its own bytes, whatever follows them.
use Rattle.std.proofs.Common.{sym, ◌∙◌}
use Rattle.format.specs.Bytes.{ok}
use Rattle.locality.proofs.LocalTrailers.{trailer_local}
use Rattle.sections.specs.OwnBytes.{TrailersAreLocal}

-- from the same place
pub trailers_local : TrailersAreLocal
trailers_local p xs (s, es) q rest e =
    let l = trailer_local p xs s es q rest e in
    record {
      pre = l.taken;
      parts = l.parts;
      to = l.ends;
      again = λ ys _. l.again p ys ∙ (λ i. ok (sym l.starts i, es) (sym l.ends i) ys);
    }
