use Rattle.std.proofs.Common.{ap, ◌∙◌}
use Rattle.format.specs.Bytes.{bad}
use Rattle.objects.proofs.Streams.{data_few, data_there}
use Rattle.objects.proofs.stream.stream_data.Goals as goal

pub returns-then-len-at-clause-is : goal.returns-then-len-at-clause-is
returns-then-len-at-clause-is c = ap bad c.met.ensures ∙ data_few _ _ _ c.args.at.within c.if-len-at.true

pub returns-clause-is : goal.returns-clause-is
returns-clause-is c =
    let ends = rw (c.skip_eol.ensures.src, c.to.ensures.src, c.to.ensures.place) at c.skip_eol.ensures.is in
    let is = rw (c.skip_eol.ensures.src, c.to.ensures.src) at c.end_stream.ensures.is in
    is ∙ data_there _ _ _ _ c.if-len-at.false ends
