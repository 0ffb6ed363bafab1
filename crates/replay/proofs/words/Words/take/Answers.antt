use Rattle.std.proofs.Common.{◌≡◌, None, ◌∷◌, Some, ◌∙◌, sym, ap, arith}
use Rattle.std.proofs.lemmas.Option.{MatchOption-at_none}
use Rattle.std.proofs.lemmas.Str.Pattern.{split_parts}
use Rattle.replay.specs.Lines.{words_left, words_of}
use Rattle.replay.proofs.Cuts.{words_whole, words_cut}
use Rattle.replay.proofs.words.Words.take.Goals as goal

pub returns-in_default : goal.returns-in_default
returns-in_default c =
    let text = c.in_ok-text.text.now in
    let parts = split_parts 32 text c.split_once.result c.split_once.ensures.cases (omega arith) in
    let left : c.split_once.result ≡ None = grind arith in
    let none = MatchOption-at_none _ _ left parts in
    ap words_left (sym c.take.ensures.value ∙ c.in_ok-text.was) ∙ (words_whole text none ∙ ap (λ t. text ∷ words_left t) (sym c.take.ensures.after))

pub returns : goal.returns
returns c =
    let word = c.in-Some.word in
    let rest = c.in-Some.rest in
    let parts = split_parts 32 c.in_ok-text.text.now (Some (word, rest)) c.in-Some.ensures.cases (omega arith) in
    ap words_left (sym c.take.ensures.value ∙ c.in_ok-text.was) ∙ (ap words_of parts.0 ∙ words_cut word.now rest.now parts.1)
