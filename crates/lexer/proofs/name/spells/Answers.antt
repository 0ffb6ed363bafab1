use Rattle.std.proofs.Common.{◌≡◌}
use Rattle.std.proofs.lemmas.Iterator.{YieldsList-from_slice}
use Rattle.std.proofs.lemmas.Iterator.Consumers.{YieldsList-from_first, YieldsList-from_copied}
use Rattle.lexer.specs.declared.name.SpelledBytes.{SpelledBytes}
use Rattle.lexer.specs.Spelled.{spelled}
use Rattle.lexer.proofs.Sames.{same_given}
use Rattle.lexer.proofs.name.spells.Goals as goal

pub returns : goal.returns
returns c =
    same_given (λ x y. y ≡ x) _ _ c.eq.ensures.ran
    (YieldsList-from_first (λ x. x) (λ (s : SpelledBytes). spelled s.0.now) _ cc)
    (λ it e. YieldsList-from_copied (YieldsList-from_slice c.args.bytes.now cc))
