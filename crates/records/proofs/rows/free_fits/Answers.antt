use Rattle.std.proofs.Common.{◌≡◌, true, false, cond, ◌&&◌, eqb, leb, refl, sym, ap, ◌∙◌, arith, w64}
use Rattle.std.proofs.lemmas.Int.{to_z-of_z}
use Rattle.std.proofs.lemmas.Bool.Decides.{nat_tests}
use Rattle.format.specs.Revisions.{under_size}
use Rattle.format.specs.Writing.{free_slot}
use Rattle.records.proofs.Listings.{free_rule}
use Rattle.records.proofs.rows.free_fits.Goals as goal

pub returns-then-generation-eq-HIGHEST_FREE : goal.returns-then-generation-eq-HIGHEST_FREE
returns-then-generation-eq-HIGHEST_FREE c =
    λ offset.
    let e = free_rule offset c.args.size c.args.number (free_slot c.args.next c.args.generation) refl in
    let a : cond (eqb c.args.number 0) (eqb c.args.generation 65535) (leb c.args.generation 65535) ≡ true = grind (arith, nat_tests) in
    c.under_size.ensures ∙ ap (under_size c.args.next) (to_z-of_z w64 c.args.size c.ranges.size) ∙ ap (λ b. b && under_size c.args.next c.args.size) (sym a) ∙ sym e

pub returns-else-generation-eq-HIGHEST_FREE : goal.returns-else-generation-eq-HIGHEST_FREE
returns-else-generation-eq-HIGHEST_FREE c =
    λ offset.
    let e = free_rule offset c.args.size c.args.number (free_slot c.args.next c.args.generation) refl in
    let a : false ≡ (cond (eqb c.args.number 0) (eqb c.args.generation 65535) (leb c.args.generation 65535) && under_size c.args.next c.args.size) = grind (arith, nat_tests) in
    let f = a ∙ sym e in
    cc
