use Rattle.std.proofs.Common.{false, sym, ap, ◌∙◌, w32, SFits, rules}
use Rattle.std.proofs.lemmas.Int.{to_z-of_z}
use Rattle.format.specs.Tokens.{int}
use Rattle.lexer.proofs.Cases.{handed}
use Rattle.lexer.proofs.Numerals.{shown_as}
use Rattle.lexer.proofs.Starts.{flawed_parts, run_reads, word_kind, number_kind}
use Rattle.lexer.proofs.head.Head.run.Goals as goal

pub returns-then-not-starts_number-clause-is : goal.returns-then-not-starts_number-clause-is
returns-then-not-starts_number-clause-is c =
    let told = c.run_end-to.ensures in
    rw c.cut-run.ensures.bytes (run_reads _ _ _ _ c.args.self.stands told.low told.is (word_kind _ _ _ (sym c.if-not-starts_number.ensures)))

pub returns-in_err-number-clause-is : goal.returns-in_err-number-clause-is
returns-in_err-number-clause-is c =
    let told = c.run_end-to.ensures in
    let z = handed c.from_residual.result c.in_err-number.field-0.0 c.from_residual.ensures.1 in
    let number = rw (c.cut-run.ensures.bytes, c.cut-run.ensures.place) at c.in_err-number.ensures in
    rw z (flawed_parts _ _ _ _ _ _ (run_reads _ _ _ _ c.args.self.stands told.low told.is (number_kind _ _ _ _ (sym c.if-not-starts_number.ensures) number)))

pub returns-in-Unsigned-clause-is : goal.returns-in-Unsigned-clause-is
returns-in-Unsigned-clause-is c =
    let told = c.run_end-to.ensures in
    let number = rw (c.cut-run.ensures.bytes, c.cut-run.ensures.place) at c.in_ok-number.ensures in
    run_reads _ _ _ _ c.args.self.stands told.low told.is (number_kind _ _ _ _ (sym c.if-not-starts_number.ensures) (shown_as _ _ _ _ c.in-Unsigned.is number))

pub returns-in-Fraction-clause-is : goal.returns-in-Fraction-clause-is
returns-in-Fraction-clause-is c =
    let told = c.run_end-to.ensures in
    let number = rw (c.cut-run.ensures.bytes, c.cut-run.ensures.place) at c.in_ok-number.ensures in
    run_reads _ _ _ _ c.args.self.stands told.low told.is (number_kind _ _ _ _ (sym c.if-not-starts_number.ensures) (shown_as _ _ _ _ c.in-Fraction.is number))

pub returns-in-Signed-clause-is : goal.returns-in-Signed-clause-is
returns-in-Signed-clause-is c =
    let told = c.run_end-to.ensures in
    let fits : SFits w32 c.in-Signed.z = search rules in
    let number = rw (c.cut-run.ensures.bytes, c.cut-run.ensures.place) at c.in_ok-number.ensures in
    run_reads _ _ _ _ c.args.self.stands told.low told.is
    (number_kind _ _ _ _ (sym c.if-not-starts_number.ensures) (shown_as _ _ _ _ c.in-Signed.is number) ∙ ap (int false) (sym (to_z-of_z w32 c.in-Signed.z fits)))
