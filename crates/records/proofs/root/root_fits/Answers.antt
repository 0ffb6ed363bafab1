use Rattle.std.proofs.Common.{◌≡◌, true, false, ◌&&◌, eqb, rules, sym, ap, ◌∙◌}
use Rattle.entries.specs.Cells.{states_in}
use Rattle.entries.specs.Rows.{slot_of}
use Rattle.records.specs.Listing.{numbers_of, place_from}
use Rattle.records.proofs.Laying.{root_listed, root_before}
use Rattle.records.proofs.root.root_fits.Goals as goal

pub returns-in-Used : goal.returns-in-Used
returns-in-Used c =
    λ file.
    let place = c.in-Some.ensures.is ∙ ap (λ n. place_from 0 n (numbers_of c.args.rows.now)) c.from.ensures in
    let t : true ≡ eqb c.in-Used.generation c.args.root_generation = search rules in
    t ∙ sym (root_listed c.args.root c.args.root_generation c.in-Some.i c.args.rows.now _ (states_in file c.args.old.now) place
    ∙ ap (λ e. (slot_of e).in_use && eqb (slot_of e).gen c.args.root_generation) c.in-Used.is)

pub returns-in_default : goal.returns-in_default
returns-in_default c =
    λ file.
    let place = c.in-Some.ensures.is ∙ ap (λ n. place_from 0 n (numbers_of c.args.rows.now)) c.from.ensures in
    let t : false ≡ eqb c.in-Used.generation c.args.root_generation = search rules in
    t ∙ sym (root_listed c.args.root c.args.root_generation c.in-Some.i c.args.rows.now _ (states_in file c.args.old.now) place
    ∙ ap (λ e. (slot_of e).in_use && eqb (slot_of e).gen c.args.root_generation) c.in-Used.is)

pub returns-in_default-2 : goal.returns-in_default-2
returns-in_default-2 c =
    λ file.
    let place = c.in-Some.ensures.is ∙ ap (λ n. place_from 0 n (numbers_of c.args.rows.now)) c.from.ensures in
    sym (root_listed c.args.root c.args.root_generation c.in-Some.i c.args.rows.now _ (states_in file c.args.old.now) place
    ∙ ap (λ e. (slot_of e).in_use && eqb (slot_of e).gen c.args.root_generation) c.in_default.is)

pub returns-in-None : goal.returns-in-None
returns-in-None c =
    λ file.
    let none = c.in-None.ensures.is ∙ ap (λ n. place_from 0 n (numbers_of c.args.rows.now)) c.from.ensures in
    c.used_at.ensures file ∙ sym (root_before c.args.root c.args.root_generation c.args.rows.now (states_in file c.args.old.now) none)
