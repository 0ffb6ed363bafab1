use Rattle.std.proofs.Common.{◌≡◌, false, ◌&&◌, ltb, leb, refl, sym, ◌∙◌, arith}
use Rattle.std.proofs.lemmas.Bool.Decides.{nat_tests}
use Rattle.format.specs.Writing.{used_slot}
use Rattle.records.proofs.Listings.{used_rule}
use Rattle.records.proofs.rows.used_fits.Goals as goal

pub returns-then-generation-le-HIGHEST_USED : goal.returns-then-generation-le-HIGHEST_USED
returns-then-generation-le-HIGHEST_USED c =
    λ size.
    let e = used_rule c.args.offset size c.args.number (used_slot c.args.object c.args.generation) refl in
    let a : ltb c.args.object c.args.offset ≡ (leb 1 c.args.number && (leb c.args.generation 65534 && ltb c.args.object c.args.offset)) = grind (arith, nat_tests) in
    a ∙ sym e

pub returns-else-generation-le-HIGHEST_USED : goal.returns-else-generation-le-HIGHEST_USED
returns-else-generation-le-HIGHEST_USED c =
    λ size.
    let e = used_rule c.args.offset size c.args.number (used_slot c.args.object c.args.generation) refl in
    let a : false ≡ (leb 1 c.args.number && (leb c.args.generation 65534 && ltb c.args.object c.args.offset)) = grind (arith, nat_tests) in
    let f = a ∙ sym e in
    cc
