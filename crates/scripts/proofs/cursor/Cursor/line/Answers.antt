use Rattle.std.proofs.Common.{◌+◌, refl, arith}
use Rattle.std.proofs.lemmas.List.{take_rest}
use Rattle.scripts.proofs.Cut.{line_found}
use Rattle.scripts.proofs.cursor.Cursor.line.Goals as goal

pub returns : goal.returns
returns c =
    let s = c.args.self.now in
    let n = c.line_length-length.result in
    let found = c.line_length-length.ensures in
    record {
      same = refl;
      counted = refl;
      at = line_found s.src.now s.place n (s.place + n) (omega arith) refl _ (take_rest s.src.now s.place) found.within found.before _ (omega arith) found.found;
    }
