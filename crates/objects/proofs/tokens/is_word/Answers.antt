use Rattle.std.proofs.Common.{◌≡◌, true, false, rules, sym, ap, ◌∙◌}
use Rattle.lexer.specs.Views.{kind_of}
use Rattle.objects.proofs.Founds.{no_word, the_word_fact}
use Rattle.objects.proofs.tokens.is_word.Goals as goal

pub returns-in-Word : goal.returns-in-Word
returns-in-Word c =
    let f : true ≡ c.same_bytes.result = search rules in
    f ∙ c.same_bytes.ensures ∙ sym (the_word_fact _ _ _ (ap kind_of c.in-Word.is))

pub returns-in_default : goal.returns-in_default
returns-in_default c =
    let f : false ≡ c.same_bytes.result = search rules in
    f ∙ c.same_bytes.ensures ∙ sym (the_word_fact _ _ _ (ap kind_of c.in-Word.is))

pub returns-in_default-2 : goal.returns-in_default-2
returns-in_default-2 c = sym (no_word _ _ (λ b e. search rules))
