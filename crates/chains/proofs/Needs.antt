-- What the theorems on chains take from the readers, supplied.
use Rattle.chains.specs.Needed.{Needed}
use Rattle.sections.proofs.Trailers.{trailers_local}
use Rattle.sections.proofs.SectionLocal.{section_taken, read_found}

pub needed : Needed
needed = record {
  local = λ off xs s e rest f.
      let t = section_taken trailers_local off xs s e rest f in
      record { pre = t.pre; parts = t.parts; ends = t.to; long = t.long; again = t.again };
  found = λ off pre rest s e f before. read_found trailers_local off pre s e rest before f;
}
