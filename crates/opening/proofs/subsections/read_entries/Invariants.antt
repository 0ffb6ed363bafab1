use Rattle.std.proofs.Common.{◌≡◌, ◌+◌, ◌-◌, ◌*◌, ◌≤◌, ◌++◌}
use Rattle.format.specs.Sections.{slots}
use Rattle.opening.specs.Held.{listed_by, HeldBefore}
use Rattle.opening.specs.Places.{spot, rest}
use Rattle.opening.specs.Readings.{seen_as}
use Rattle.opening.proofs.subsections.read_entries.Given as goal

abbrev pub invariant-loop-number : goal.invariant-loop-number
invariant-loop-number l = record {
  base : l.line.base ≡ l.view.base;
  src : l.line.at.src.now ≡ l.view.at.src.now;
  place : l.line.at.place ≡ l.view.at.place + 20 * (l.number - l.first);
  low : l.first ≤ l.number;
  held : HeldBefore l.line.at.place l.rows;
  listed : seen_as (λ ss. listed_by l.rows ++ ss) (slots (l.count - (l.number - l.first)) (l.first + (l.number - l.first)) (spot l.line) (rest l.line))
      ≡ seen_as (λ ss. listed_by l.initial.rows ++ ss) (slots l.count l.first (spot l.view) (rest l.view));
}
