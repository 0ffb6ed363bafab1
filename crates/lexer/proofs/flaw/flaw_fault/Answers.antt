use Rattle.std.proofs.Common.{◌≡◌, ℕ, ◌⊎◌, ◌∙◌, inl, inr, rules}
use Rattle.faults.specs.declared.reason.Reason.TheVariants.{BadToken}
use Rattle.format.specs.Failures.{token_fault}
use Rattle.format.specs.Tokens.{flaw_fault}
use Rattle.lexer.specs.declared.flaw.Flaw.{Flaw}
use Rattle.lexer.specs.declared.flaw.Flaw.TheVariants.{BadName, BadNumber, BadHex, Stray}
use Rattle.lexer.specs.Flaws.{flaw_shown}
use Rattle.lexer.proofs.flaw.flaw_fault.Goals as goal

bad_token : (p : ℕ) (f : Flaw) → ((x : ℕ) × (f ≡ BadName x)) ⊎ (((x : ℕ) × (f ≡ BadNumber x)) ⊎ (((x : ℕ) × (f ≡ BadHex x)) ⊎ (f ≡ Stray))) → token_fault BadToken p ≡ flaw_fault p (flaw_shown f)
unfolding flaw_fault
bad_token p f (inl (x, e)) = rw e
bad_token p f (inr (inl (x, e))) = rw e
bad_token p f (inr (inr (inl (x, e)))) = rw e
bad_token p f (inr (inr (inr e))) = rw e

pub returns-in-BadName : goal.returns-in-BadName
returns-in-BadName c = c.met.ensures ∙ bad_token _ _ c.in-BadName.is

pub returns-in-CutShort : goal.returns-in-CutShort
unfolding flaw_fault
returns-in-CutShort c = search rules

pub returns-in-DeepBracket : goal.returns-in-DeepBracket
unfolding flaw_fault
returns-in-DeepBracket c = search rules

pub returns-in-OutOfRange : goal.returns-in-OutOfRange
unfolding flaw_fault
returns-in-OutOfRange c = search rules
