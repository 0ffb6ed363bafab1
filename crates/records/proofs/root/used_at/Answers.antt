use Rattle.std.proofs.Common.{◌≡◌, false, MatchOption, rules}
use Rattle.format.specs.Bytes.{Bytes}
use Rattle.format.specs.Revisions.{used_with}
use Rattle.entries.specs.Cells.{state_in}
use Rattle.records.proofs.Laying.{used_told}
use Rattle.records.proofs.root.used_at.Goals as goal

pub returns : goal.returns
returns c =
    let told : MatchOption c.get.result (c.is_some_and.result ≡ false) (λ x. (file : Bytes) → c.is_some_and.result ≡ used_with c.args.generation (state_in file x.now)) = search rules in
    used_told c.args.n c.args.generation c.args.cells.now c.get.result c.is_some_and.result c.get.ensures.lookup told
