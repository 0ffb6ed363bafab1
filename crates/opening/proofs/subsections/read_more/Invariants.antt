use Rattle.std.proofs.Common.{◌≡◌, ℕ, ◌-◌, ◌<◌, ◌≤◌, ◌++◌, length}
use Rattle.format.specs.Sections.{subs, listed}
use Rattle.format.specs.Strings.{turns}
use Rattle.opening.specs.Held.{listed_by, HeldBefore}
use Rattle.opening.specs.Places.{spot, rest}
use Rattle.opening.specs.Readings.{seen_as}
use Rattle.opening.proofs.subsections.read_more.Given as goal

abbrev pub invariant-loop-line : goal.invariant-loop-line
invariant-loop-line l = record {
  base : l.line.base ≡ l.view.base;
  src : l.line.at.src.now ≡ l.view.at.src.now;
  behind : l.view.at.place ≤ l.line.at.place;
  held : HeldBefore l.line.at.place l.rows;
  turn : ℕ;
  enough : length l.line.at.src.now - l.line.at.place < turn;
  listing : seen_as (λ ss. listed_by l.rows ++ listed ss) (subs turn l.next (spot l.line) (rest l.line))
      ≡ seen_as (λ ss. listed_by l.initial.rows ++ listed ss) (subs turns l.low (spot l.view) (rest l.view));
}

abbrev pub decreases-loop-line : goal.decreases-loop-line
decreases-loop-line l = length l.line.at.src.now - l.line.at.place
