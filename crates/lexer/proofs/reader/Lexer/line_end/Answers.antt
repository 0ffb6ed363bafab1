use Rattle.std.proofs.Common.{◌+◌, arith}
use Rattle.std.proofs.lemmas.Bool.Decides.{nat_tests}
use Rattle.lexer.proofs.Lines.{byte_there, no_byte_there, stands, line_no_bytes, line_lf, line_other, line_cr_last, line_cr_lf, line_cr}
use Rattle.lexer.proofs.reader.Lexer.line_end.Goals as goal
use Rattle.lexer.proofs.reader.Lexer.line_end.Goals.{then-this-lt2+in-13-1, else-this-lt2+in-13+in_default-1}

pub returns-in-empty-clause-is : goal.returns-in-empty-clause-is
returns-in-empty-clause-is c = line_no_bytes _ _ (omega arith)

pub returns-in-10-clause-is : goal.returns-in-10-clause-is
returns-in-10-clause-is c =
    let e = byte_there c.args.self.src.now c.args.self.place c.args.self.place 0 10 (omega arith) (grind (arith, nat_tests)) in
    line_lf _ _ (stands _ _ 10 (λ h. omega arith) e) e

pub returns-in-13-clause-is : goal.returns-in-13-clause-is
returns-in-13-clause-is c =
    let e = byte_there c.args.self.src.now c.args.self.place c.args.self.place 0 13 (omega arith) (omega arith) in
    let f = byte_there c.args.self.src.now c.args.self.place (c.args.self.place + 1) 1 10 (omega arith) (omega arith) in
    line_cr_lf _ _ (omega arith) (λ h. omega (arith, e)) e (omega arith) f

pub returns-in-13-2-clause-is : goal.returns-in-13-2-clause-is
returns-in-13-2-clause-is c = elim c.in-13-2-1.branch [
  | then-this-lt2+in-13-1 w ↦
      let e = byte_there c.args.self.src.now c.args.self.place c.args.self.place 0 13 (omega arith) (omega arith) in
      let h = stands _ _ 13 (λ h. omega arith) e in
      line_cr_last _ _ h (λ i. omega (arith, e)) e (grind (arith, nat_tests))
  | else-this-lt2+in-13+in_default-1 w ↦
      let e = byte_there c.args.self.src.now c.args.self.place c.args.self.place 0 13 (omega arith) (omega arith) in
      let f = no_byte_there c.args.self.src.now c.args.self.place (c.args.self.place + 1) 1 10 (omega arith) (λ h. omega arith) in
      line_cr _ _ (stands _ _ 13 (λ h. omega arith) e) (λ h. omega (arith, e)) e (grind (arith, nat_tests)) f
]

pub returns-in_default-clause-is : goal.returns-in_default-clause-is
returns-in_default-clause-is c =
    line_other _ _ (omega arith)
    (no_byte_there c.args.self.src.now c.args.self.place _ 0 10 (omega arith) (λ h. omega arith))
    (no_byte_there c.args.self.src.now c.args.self.place _ 0 13 (omega arith) (λ h. omega arith))

pub returns-in_default-2-clause-is : goal.returns-in_default-2-clause-is
returns-in_default-2-clause-is c =
    line_other _ _ (omega arith)
    (no_byte_there c.args.self.src.now c.args.self.place _ 0 10 (omega arith) (λ h. omega arith))
    (no_byte_there c.args.self.src.now c.args.self.place _ 0 13 (omega arith) (λ h. omega arith))
