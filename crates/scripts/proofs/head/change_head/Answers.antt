use Rattle.std.proofs.Common.{ap, ◌∙◌}
use Rattle.scripts.specs.declared.line.Head.TheVariants.{Remove, Put}
use Rattle.scripts.specs.Lines.{numbered, put_of, remove_of}
use Rattle.scripts.proofs.Words.{kind_read}
use Rattle.scripts.proofs.head.change_head.Goals as goal

pub returns-in-Some : goal.returns-in-Some
unfolding put_of
returns-in-Some c =
    kind_read (λ n. Put n) c.number.result c.map.result c.ok_or.result c.map.ensures.cases c.ok_or.ensures.value
    ∙ ap (numbered (λ n. Put n)) c.number.ensures
    ∙ ap (put_of c.args.line.now) c.in-Some.ensures

pub returns-in-Some-after : goal.returns-in-Some-after
unfolding put_of remove_of
returns-in-Some-after c =
    kind_read (λ n. Remove n) c.number-in-Some-after.result c.map-in-Some-after.result c.ok_or-in-Some-after.result c.map-in-Some-after.ensures.cases c.ok_or-in-Some-after.ensures.value
    ∙ ap (numbered (λ n. Remove n)) c.number-in-Some-after.ensures
    ∙ ap remove_of c.in-Some-after.ensures
    ∙ ap (put_of c.args.line.now) c.in_default.ensures

pub returns-in_default-after : goal.returns-in_default-after
unfolding put_of remove_of
returns-in_default-after c = ap remove_of c.in_default-after.ensures ∙ ap (put_of c.args.line.now) c.in_default.ensures
