use Rattle.std.proofs.Common.{Ok, ap, ◌∙◌, rules}
use Rattle.lexer.proofs.Cases.{handed}
use Rattle.scripts.proofs.Steps.{Numbered, numbered_ok, numbered_err, head_found, head_none, head_past, head_wrong}
use Rattle.scripts.proofs.cursor.Cursor.head.Goals as goal

pub loop-line-preserved : goal.loop-line-preserved
loop-line-preserved c =
    let numbered : Numbered c.line.new.self.lines c.head.result c.map_err.result = search rules in
    let e = numbered_ok _ _ _ _ c.head.ensures numbered c.in_ok-said.was in
    head_past c.loop-line.self c.loop-line.invariant c.line.new.self c.in-Some.line.now c.in-Some.ensures (e ∙ ap (λ h. Ok h) c.in_default-said.is)

pub returns-in-Some-said : goal.returns-in-Some-said
returns-in-Some-said c =
    let numbered : Numbered c.line.new.self.lines c.head.result c.map_err.result = search rules in
    let e = numbered_ok _ _ _ _ c.head.ensures numbered c.in_ok-said.was in
    head_found c.args.self.now c.loop-line.self c.line.new.self c.in-Some.line.now c.in-Some-said.head c.loop-line.invariant c.in-Some.ensures (e ∙ ap (λ h. Ok h) c.in-Some-said.is)

pub returns-in_err-said : goal.returns-in_err-said
returns-in_err-said c =
    let numbered : Numbered c.line.new.self.lines c.head.result c.map_err.result = search rules in
    let z = handed c.from_residual.result c.in_err-said.field-0.0 c.from_residual.ensures.1 in
    let e = numbered_err _ _ _ _ c.head.ensures numbered c.in_err-said.was in
    rw z (head_wrong c.loop-line.self c.loop-line.invariant c.line.new.self c.in-Some.line.now c.in-Some.ensures e.0 _ e.1 e.2)

pub returns : goal.returns
returns c = head_none c.loop-line.self c.loop-line.invariant c.in_default.ensures
