-- A revision that was drawn out and opened by a book of its own.
use Rattle.std.specs.Prelude.{◌≡◌, ℕ, ◌≤◌, Ok}
use Rattle.format.specs.Book.{standing, Moment, history, revision_at}
use Rattle.format.specs.Law.{OpensAs}
use Rattle.format.specs.Questions.{ask_count, ask_list, ask_fetch}
use Rattle.keeping.specs.Delivering.{up_to}

-- The book n has revision k of the book m alone: its bytes are those of m up to the revision's end, they are accepted as k revisions,
-- and each of these is the very revision that m has; so every question about it is answered alike.
pub record Alone (m : Moment) (k : ℕ) (n : Moment) : Type 0 where
  pub bytes : n.store.bytes ≡ up_to m.store.bytes k
  pub accepted : OpensAs n.store.bytes k
  pub stands : n.phase ≡ standing
  pub counts : ask_count n ≡ Ok k
  pub revisions : (j : ℕ) → j ≤ k → revision_at j (history n.store.bytes) ≡ revision_at j (history m.store.bytes)
  pub lists : (j : ℕ) → j ≤ k → ask_list n j ≡ ask_list m j
  pub fetches : (j number room : ℕ) → j ≤ k → ask_fetch n j number room ≡ ask_fetch m j number room
