use Rattle.std.proofs.Common.{ap, ◌∙◌, arith}
use Rattle.format.specs.Tokens.{numeral_kind}
use Rattle.lexer.proofs.Numerals.{no_byte, behind_minus, behind_plus, without_sign}
use Rattle.lexer.proofs.run.Run.numeral.Goals as goal

pub returns-in-empty : goal.returns-in-empty
unfolding numeral_kind
returns-in-empty c = ap (numeral_kind c.args.self.bytes.now) (no_byte _ _ (omega arith))

pub returns-in-45 : goal.returns-in-45
returns-in-45 c =
    let run = c.args.self.bytes.now in
    let part = rw (c.behind.ensures.bytes, c.behind.ensures.place) at c.part.ensures run in
    part ∙ ap (numeral_kind run) (behind_minus c.args.self.from run (omega arith) (omega arith))

pub returns-in-43 : goal.returns-in-43
returns-in-43 c =
    let run = c.args.self.bytes.now in
    let part = rw (c.behind-in-43.ensures.bytes, c.behind-in-43.ensures.place) at c.part-in-43.ensures run in
    part ∙ ap (numeral_kind run) (behind_plus c.args.self.from run (omega arith) (λ h. omega arith) (omega arith))

pub returns-in_default : goal.returns-in_default
returns-in_default c =
    let run = c.args.self.bytes.now in
    c.part-in_default.ensures run ∙ ap (numeral_kind run) (without_sign c.args.self.from run (omega arith) (λ h. omega arith) (λ h. omega arith))
