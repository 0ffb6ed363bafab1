use Rattle.std.proofs.Common.{◌+◌, ◌-◌, Ok, refl, ap, ◌∙◌, rules, arith}
use Rattle.lexer.proofs.Cases.{handed}
use Rattle.scripts.proofs.Steps.{Numbered, numbered_ok, numbered_err, body_ended, body_text, body_unended, body_wrong}
use Rattle.scripts.proofs.cursor.Cursor.body.Goals as goal

pub loop-line-preserved : goal.loop-line-preserved
loop-line-preserved c =
    let s = c.args.self.now in
    let v = c.loop-line.invariant in
    let r = c.in-Some.ensures in
    let numbered : Numbered c.line.new.self.lines c.body_line.result c.map_err.result = search rules in
    let e = numbered_ok _ _ _ _ c.body_line.ensures numbered c.in_ok-map_err.was in
    record {
      ends = refl;
      behind = omega (arith, r.at.moves, v.behind);
      of = r.same ∙ v.of;
      said_on = λ n. body_text s.src.now s.place s.lines n c.loop-line.self v.of (v.said_on n) c.line.new.self c.in-Some.line.now r v.behind (e ∙ ap (λ l. Ok l) c.in-Text.is);
    }

pub returns-in-End : goal.returns-in-End
returns-in-End c n =
    let s = c.args.self.now in
    let v = c.loop-line.invariant in
    let numbered : Numbered c.line.new.self.lines c.body_line.result c.map_err.result = search rules in
    let e = numbered_ok _ _ _ _ c.body_line.ensures numbered c.in_ok-map_err.was in
    body_ended s.src.now s.place s.lines n c.loop-line.self v.of (v.said_on n) c.line.new.self c.in-Some.line.now c.in-Some.ensures
    (s.place + c.saturating_sub-length.result - s.place) (omega (arith, c.saturating_sub-length.ensures, v.ends, v.behind)) v.behind (e ∙ ap (λ l. Ok l) c.in-End.is)

pub returns-in_err-map_err : goal.returns-in_err-map_err
returns-in_err-map_err c =
    let s = c.args.self.now in
    let v = c.loop-line.invariant in
    let numbered : Numbered c.line.new.self.lines c.body_line.result c.map_err.result = search rules in
    let z = handed c.from_residual.result c.in_err-map_err.field-0.0 c.from_residual.ensures.1 in
    let e = numbered_err _ _ _ _ c.body_line.ensures numbered c.in_err-map_err.was in
    rw z (λ n. body_wrong s.src.now s.place s.lines n c.loop-line.self v.of (v.said_on n) c.line.new.self c.in-Some.line.now c.in-Some.ensures e.0 _ e.1 e.2)

pub returns : goal.returns
returns c n =
    let s = c.args.self.now in
    let v = c.loop-line.invariant in
    body_unended s.src.now s.place s.lines n c.loop-line.self v.of (v.said_on n) (rw v.of at c.in_default.ensures)
