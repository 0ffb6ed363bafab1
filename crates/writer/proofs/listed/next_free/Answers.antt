use Rattle.std.proofs.Common.{◌≡◌, ℕ, ◌+◌, ◌-◌, List, length, take, drop, Some, None, Option, MatchOption, ap, ◌∙◌, arith, rules, length-drop}
use Rattle.std.specs.List.{position}
use Rattle.std.specs.Option.{option_map, unwrap_or}
use Rattle.std.proofs.lemmas.List.{take_all}
use Rattle.writer.specs.declared.plan.Planned.{Planned}
use Rattle.writer.specs.Listing.{is_free}
use Rattle.writer.specs.Plans.{rows_of}
use Rattle.writer.proofs.Listing.{next_in, next_first}
use Rattle.writer.proofs.listed.next_free.Goals as goal

-- a place among the numbers from n on, as a number
place_told : (n r : ℕ) (o : Option ℕ) → MatchOption o (r ≡ 0) (λ k. r ≡ n + k) → r ≡ unwrap_or (option_map (λ k. n + k) o) 0
place_told n r None m = m
place_told n r (Some k) m = m

number_at : (n r : ℕ) (plan ps : List Planned) (o : Option ℕ) → ps ≡ plan → o ≡ position is_free (take (length ps - n) (drop n ps)) → MatchOption o (r ≡ 0) (λ k. r ≡ n + k) → r ≡ next_in plan n
number_at n r plan ps o s e m =
    let t = take_all (length ps - n) (drop n ps) (omega (arith, length-drop n ps)) in
    place_told n r o m ∙ ap (λ p. unwrap_or (option_map (λ k. n + k) p) 0) (e ∙ ap (position is_free) t ∙ ap (λ qs. position is_free (drop n qs)) s) ∙ next_first n (drop n plan)

pub returns : goal.returns
returns c =
    let told : MatchOption c.first_free.result (c.map_or.result ≡ 0) (λ k. c.map_or.result ≡ c.args.from + k) = search rules in
    number_at c.args.from c.map_or.result (rows_of c.args.plan.now) c.as_slice.result.now c.first_free.result c.as_slice.ensures c.first_free.ensures.is told
