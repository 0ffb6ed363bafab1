use Rattle.std.proofs.Common.{◌≡◌, Some, Err, sym, ap, ◌∙◌, w64, SFits, to_z, of_z, rules}
use Rattle.std.proofs.lemmas.Int.{to_z-of_z}
use Rattle.faults.specs.declared.reason.Reason.TheVariants.{ChainRule}
use Rattle.format.specs.Chain.{before}
use Rattle.format.specs.Failures.{chain_fault}
use Rattle.records.proofs.Chaining.{prev_none, prev_negative, prev_high, prev_low}
use Rattle.records.proofs.Converted.{converted_ok, converted_err}
use Rattle.records.proofs.chain.steps.offset_before.Goals as goal
use Rattle.records.proofs.chain.steps.offset_before.Goals.{in_default-try_from-via-in-Ok+else-place-offset, in_default-try_from-via-in_default-try_from}

pub returns-in_default : goal.returns-in_default
returns-in_default c = sym (prev_none c.args.offset) ∙ ap (before c.args.offset) (sym c.in_default.is)

pub returns-in-Ok : goal.returns-in-Ok
returns-in-Ok c =
    let f : SFits w64 c.in-Some.prev = search rules in
    let e : to_z w64 (of_z w64 c.in-Some.prev) ≡ c.in-Some.prev = to_z-of_z w64 c.in-Some.prev f in
    let z = converted_ok c.in-Some.prev (to_z w64 (of_z w64 c.in-Some.prev)) c.try_from.result f e c.try_from.ensures c.in-Ok.place c.in-Ok.is in
    sym (prev_low c.args.offset c.in-Ok.place c.if-place-offset.true) ∙ ap (λ x. before c.args.offset (Some x)) (sym z) ∙ ap (before c.args.offset) (sym c.in-Some.is)

pub returns-in_default-try_from : goal.returns-in_default-try_from
returns-in_default-try_from c =
    let f : SFits w64 c.in-Some.prev = search rules in
    let e : to_z w64 (of_z w64 c.in-Some.prev) ≡ c.in-Some.prev = to_z-of_z w64 c.in-Some.prev f in
    let q : Err (chain_fault ChainRule c.args.offset 0) ≡ before c.args.offset (Some c.in-Some.prev) =
    elim c.in_default-try_from.branch [
      | in_default-try_from-via-in-Ok+else-place-offset w ↦
          let z = converted_ok c.in-Some.prev (to_z w64 (of_z w64 c.in-Some.prev)) c.try_from.result f e c.try_from.ensures w.in-Ok.place w.in-Ok.is in
          sym (prev_high c.args.offset w.in-Ok.place w.if-place-offset.false) ∙ ap (λ x. before c.args.offset (Some x)) (sym z)
      | in_default-try_from-via-in_default-try_from w ↦
          let z = converted_err c.in-Some.prev (to_z w64 (of_z w64 c.in-Some.prev)) c.try_from.result f e c.try_from.ensures _ w.in_default-try_from.is in
          sym (prev_negative c.args.offset z.0) ∙ ap (λ x. before c.args.offset (Some x)) (sym z.1)
    ] in
    ap Err c.broken_rule.ensures ∙ q ∙ ap (before c.args.offset) (sym c.in-Some.is)
