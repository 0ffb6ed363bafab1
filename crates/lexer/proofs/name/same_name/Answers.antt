use Rattle.std.proofs.Common.{◌≡◌, ap}
use Rattle.std.proofs.lemmas.Iterator.Consumers.{YieldsList-from_first}
use Rattle.lexer.specs.declared.name.SpelledBytes.{SpelledBytes}
use Rattle.lexer.specs.Spelled.{spelled}
use Rattle.lexer.proofs.Sames.{same_given}
use Rattle.lexer.proofs.name.same_name.Goals as goal

pub returns : goal.returns
returns c =
    same_given (λ x y. y ≡ x) _ _ c.eq.ensures.ran
    (YieldsList-from_first (λ x. x) (λ (s : SpelledBytes). spelled s.0.now) _ cc)
    (λ it e. YieldsList-from_first (λ x. x) (λ (s : SpelledBytes). spelled s.0.now) _ (ap (λ (s : SpelledBytes). spelled s.0.now) e))
