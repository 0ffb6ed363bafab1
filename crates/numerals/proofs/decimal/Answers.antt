use Rattle.std.proofs.Common.{sym, ◌∙◌, lit<, arith}
use Rattle.std.proofs.lemmas.Str.Pattern.{starts_char}
use Rattle.numerals.proofs.Parsed.{parsed, plain}
use Rattle.numerals.proofs.decimal.Goals as goal

pub returns : goal.returns
returns c =
    let signed = starts_char 43 c.args.text.now c.starts_with.result c.starts_with.ensures.cases (lit< tt) (lit< tt) in
    parsed c.args.text.now c.parse.result c.ok.result c.ok.ensures.value c.parse.ensures.value.0 (omega arith)
    (λ e. plain (sym (signed.1 e) ∙ c.if-starts_with.false))
