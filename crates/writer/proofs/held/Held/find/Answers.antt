use Rattle.std.proofs.Common.{◌≡◌, eqb, map, length, IfSome, Option, sym, ap, ◌∙◌, subst}
use Rattle.std.specs.List.{find as first}
use Rattle.std.specs.Option.{option_map}
use Rattle.entries.specs.Reserving.{items_of}
use Rattle.format.specs.Revisions.{find}
use Rattle.writer.specs.declared.change.Content.{Content}
use Rattle.writer.specs.Changes.{content_in, pair_of}
use Rattle.writer.specs.Helds.{Kept, pool_of}
use Rattle.writer.proofs.Changes.{found_first, found_in, found_kept}
use Rattle.writer.proofs.held.Held.find.Goals as goal

pub returns : goal.returns
returns c =
    let h = c.args.self.now in
    let e : c.change_of.result ≡ find c.args.n (map pair_of (items_of h.changes)) = c.change_of.ensures ∙ ap (λ cs. option_map (λ x. x.content) (first (λ x. eqb c.args.n x.number) cs)) c.as_slice.ensures ∙ found_first c.args.n (items_of h.changes) in
    let P : Option Content → Type 0 = λ o. IfSome o (λ x. Kept h x) in
    record {
      is = ap (option_map (content_in (pool_of h))) e ∙ found_in c.args.n (pool_of h) (items_of h.changes);
      kept = subst P (sym e) (found_kept c.args.n (length (pool_of h)) (items_of h.changes) h.within);
    }
