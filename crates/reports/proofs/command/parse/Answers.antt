use Rattle.std.proofs.Common.{◌≡◌, [], ◌∷◌, map, string_bytes, subst, arith}
use Rattle.reports.specs.Commands.{Parsed}
use Rattle.reports.proofs.Listed.{four}
use Rattle.reports.proofs.command.parse.Goals as goal

pub returns-in-len4 : goal.returns-in-len4
returns-in-len4 c =
    let xs = c.args.words.now in
    let e =
    four string_bytes xs c.name-item-then-words-lt5.result c.file-item-then-words-lt5.result c.first-item.result c.second-item.result (omega arith)
    c.name-item-then-words-lt5.is c.file-item-then-words-lt5.is c.first-item.is c.second-item.is in
    let p = c.as_str-in-len4.ensures.value in
    let q = c.as_str-in-len4-2.ensures.value in
    let r = c.as_str-in-len4-3.ensures.value in
    let s = c.as_str-in-len4-4.ensures.value in
    let z : c.as_str-in-len4.result.now ∷ (c.as_str-in-len4-2.result.now ∷ (c.as_str-in-len4-3.result.now ∷ (c.as_str-in-len4-4.result.now ∷ []))) ≡ map string_bytes xs = cc in
    subst (λ ws. Parsed ws c.of_two.result) z c.of_two.ensures
