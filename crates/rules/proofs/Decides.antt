-- Every file keeps the rules or breaks one, and not both.
use Rattle.std.proofs.Common.{◌≡◌, List, take, Ok, sym, refl, ap, ◌∙◌, inl, inr}
use Rattle.format.specs.Bytes.{Bytes}
use Rattle.format.specs.Revisions.{Revision, Opened, opens}
use Rattle.chains.proofs.Steps.{by_answer, answered}
use Rattle.rules.specs.Rules.{Rules}
use Rattle.rules.specs.Stated.{DecidesEveryFile}
use Rattle.rules.proofs.Accepts.{rules_hold, rules_open}
use Rattle.rules.proofs.Faulted.{never_fault, faulted}
use Rattle.rules.proofs.Refuses.{refused_breach, breach_refused}

opens_as : (file : Bytes) (rs : List Revision) → Rules file rs → opens file ≡ Ok (record { header = take 8 file; history = rs })
opens_as file rs r = rules_open file (record { header = take 8 file; history = rs }) r refl

pub decides_every_file : DecidesEveryFile
decides_every_file = record {
  decided = λ file. by_answer (opens file) (λ o e. inl (o.history, (rules_hold file o e).0)) (λ f e. inr (f, refused_breach file f e));
  never_both = λ file rs f r b. never_fault (sym (opens_as file rs r) ∙ breach_refused file f b);
  one_history = λ file rs qs r q.
      let e : ◌≡◌ {A = Opened} (record { header = take 8 file; history = rs }) (record { header = take 8 file; history = qs }) = answered (sym (opens_as file rs r) ∙ opens_as file qs q) in
      ap (λ (o : Opened). o.history) e;
  one_fault = λ file f g a b. faulted (sym (breach_refused file f a) ∙ breach_refused file g b);
}
