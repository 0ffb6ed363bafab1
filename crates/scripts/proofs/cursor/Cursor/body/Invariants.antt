use Rattle.std.proofs.Common.{◌≡◌, ℕ, ◌-◌, ◌≤◌, [], length}
use Rattle.scripts.specs.Scripts.{inside}
use Rattle.scripts.specs.Walks.{part, said_at}
use Rattle.scripts.proofs.cursor.Cursor.body.Given as goal

abbrev pub invariant-loop-line : goal.invariant-loop-line
invariant-loop-line l =
    record {
      ends : l.end ≡ l.self.place;
      behind : l.start.place ≤ l.self.place;
      of : l.self.src.now ≡ l.start.src.now;
      said_on : (n : ℕ) → said_at (inside l.start.lines n (part l.start.src.now l.start.place l.self.place)) l.self ≡ said_at (inside l.start.lines n []) l.start;
    }

abbrev pub decreases-loop-line : goal.decreases-loop-line
decreases-loop-line l = length l.self.src.now - l.self.place
