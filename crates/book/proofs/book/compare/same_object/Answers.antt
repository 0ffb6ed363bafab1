use Rattle.std.proofs.Common.{◌≡◌, true, false, ◌&&◌, eqb, sym, ap, ◌∙◌, arith}
use Rattle.std.proofs.lemmas.Bool.{eq-eqb}
use Rattle.std.proofs.lemmas.Bool.Decides.{nat_tests}
use Rattle.format.specs.Bytes.{same}
use Rattle.entries.specs.Cells.{part}
use Rattle.locality.proofs.Cases.{cases}
use Rattle.book.proofs.Compared.{unlike_lengths, part_length, same_part}
use Rattle.book.proofs.book.compare.same_object.Goals as goal

pub returns-then-a-b-3 : goal.returns-then-a-b-3
returns-then-a-b-3 g c =
    let file = (g.S.Store.meaning c.args.store.now).bytes in
    let a = c.args.a in
    let b = c.args.b in
    let e : eqb a.generation b.generation ≡ true = eq-eqb _ _ (grind (arith, nat_tests)) in
    let u = same_part file a.start a.end b.start b.end (grind (arith, nat_tests)) (grind (arith, nat_tests)) in
    let f : true ≡ (eqb a.generation b.generation && same (part file a.start a.end) (part file b.start b.end)) = sym (ap (λ t. t && same (part file a.start a.end) (part file b.start b.end)) e ∙ u) in
    let s : eqb a.start b.start ≡ true = eq-eqb _ _ (grind (arith, nat_tests)) in
    cc

pub returns-else-a-b-2 : goal.returns-else-a-b-2
returns-else-a-b-2 g c =
    let file = (g.S.Store.meaning c.args.store.now).bytes in
    let a = c.args.a in
    let b = c.args.b in
    let p = part_length file a.start a.end c.requires.first.0 c.requires.first.1 in
    let q = part_length file b.start b.end c.requires.second.0 c.requires.second.1 in
    cases (eqb a.generation b.generation)
    (λ k. let u = unlike_lengths (part file a.start a.end) (part file b.start b.end) (λ z. grind (arith, nat_tests)) in
    let f : false ≡ (eqb a.generation b.generation && same (part file a.start a.end) (part file b.start b.end)) = sym (ap (λ t. t && same (part file a.start a.end) (part file b.start b.end)) k ∙ u) in
    cc)
    (λ k. let f : false ≡ (eqb a.generation b.generation && same (part file a.start a.end) (part file b.start b.end)) = sym (ap (λ t. t && same (part file a.start a.end) (part file b.start b.end)) k) in
    cc)
