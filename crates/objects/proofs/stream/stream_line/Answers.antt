use Rattle.std.proofs.Common.{◌+◌, ap, ◌∙◌, arith}
use Rattle.std.proofs.lemmas.Bool.Decides.{nat_tests}
use Rattle.format.specs.Bytes.{bad}
use Rattle.lexer.proofs.Lines.{byte_there, no_byte_there, stands}
use Rattle.objects.proofs.Streams.{line_none, line_lf, line_other, line_cut, line_crlf, line_cr}
use Rattle.objects.proofs.stream.stream_line.Goals as goal
use Rattle.objects.proofs.stream.stream_line.Goals.{in_default-via-then-this-lt2+in_default-1, in_default-via-else-this-lt2+in-13+in_default-1, in_default-via-else-this-lt2+in_default-1}

pub returns-in-empty-clause-is : goal.returns-in-empty-clause-is
returns-in-empty-clause-is c = ap bad c.met.ensures ∙ line_none _ _ (omega arith)

pub returns-in-10-clause-is : goal.returns-in-10-clause-is
returns-in-10-clause-is c =
    let e = byte_there c.args.at.src.now c.args.at.place c.args.at.place 0 10 (omega arith) (grind (arith, nat_tests)) in
    line_lf _ _ (stands _ _ 10 (λ h. omega arith) e) e

pub returns-in-13-clause-is : goal.returns-in-13-clause-is
returns-in-13-clause-is c =
    let e = byte_there c.args.at.src.now c.args.at.place c.args.at.place 0 13 (omega arith) (omega arith) in
    ap bad c.met-in-13.ensures ∙ line_cut _ _ (λ h. omega (arith, e)) e (omega arith)

pub returns-in-13-2-clause-is : goal.returns-in-13-2-clause-is
returns-in-13-2-clause-is c =
    let e = byte_there c.args.at.src.now c.args.at.place c.args.at.place 0 13 (omega arith) (omega arith) in
    let f = byte_there c.args.at.src.now c.args.at.place (c.args.at.place + 1) 1 10 (omega arith) (omega arith) in
    line_crlf _ _ (λ h. omega (arith, e)) e (omega arith) f

pub returns-in_default-clause-is : goal.returns-in_default-clause-is
returns-in_default-clause-is c =
    ap bad c.met-in_default.ensures
    ∙ elim c.in_default.branch [
      | in_default-via-then-this-lt2+in_default-1 w ↦
          line_other _ _ (grind (arith, nat_tests))
          (no_byte_there c.args.at.src.now c.args.at.place _ 0 10 (omega arith) (λ h. omega arith))
          (no_byte_there c.args.at.src.now c.args.at.place _ 0 13 (omega arith) (λ h. omega arith))
      | in_default-via-else-this-lt2+in-13+in_default-1 w ↦
          let e = byte_there c.args.at.src.now c.args.at.place c.args.at.place 0 13 (omega arith) (omega arith) in
          let f = no_byte_there c.args.at.src.now c.args.at.place (c.args.at.place + 1) 1 10 (omega arith) (λ h. omega arith) in
          line_cr _ _ (λ h. omega (arith, e)) e (grind (arith, nat_tests)) f
      | in_default-via-else-this-lt2+in_default-1 w ↦
          line_other _ _ (grind (arith, nat_tests))
          (no_byte_there c.args.at.src.now c.args.at.place _ 0 10 (omega arith) (λ h. omega arith))
          (no_byte_there c.args.at.src.now c.args.at.place _ 0 13 (omega arith) (λ h. omega arith))
    ]
