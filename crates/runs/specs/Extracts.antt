-- Drawing a revision out into an empty store, and opening it there.
use Rattle.std.specs.Prelude.{◌≡◌, ℕ, ◌<◌, [], length, Ok, Err, Result}
use Rattle.stores.specs.Meanings.{Meaning}
use Rattle.stores.specs.declared.store.Store.{Ghosts}
use Rattle.format.specs.Questions.{ask_draw}
use Rattle.book.specs.declared.book.Book.{Book}
use Rattle.book.specs.Asked.{Draws}
use Rattle.book.specs.Books.{Sound, moment_of, store_in}
use Rattle.runs.specs.declared.alone.ExtractError.{ExtractError}
use Rattle.runs.specs.declared.alone.ExtractError.TheVariants.{NotEmpty, Refused}
use Rattle.runs.specs.declared.outcome.Stopped.{Stopped}
use Rattle.runs.specs.Drawn.{Alone}

-- why revision k of the book b was not drawn out into the store `out`, and the store that comes back; only the drawing can be refused
abbrev pub NotExtracted : {S T : Type 0} {p : Ghosts S} → (S → Meaning) → (T → Meaning) → Book S p → ℕ → T → ExtractError → T → Type 0
NotExtracted f g b k out NotEmpty s = (s ≡ out) × (0 < length (g out).bytes)
NotExtracted f g b k out (Refused x) s = ((g out).bytes ≡ []) × (ask_draw (moment_of f b) k (g out).space ≡ Err x) × (g s ≡ g out)

-- the drawing alone: what was drawn stands in the store, which held no bytes
abbrev pub DrawsAlone : {S T : Type 0} {p : Ghosts S} → (S → Meaning) → (T → Meaning) → Book S p → ℕ → T → Result (Unit {0}) ExtractError → T → Type 0
DrawsAlone f g b k out (Ok u) s = ((g out).bytes ≡ []) × Draws (moment_of f b) k (g out) (Ok tt) (g s)
DrawsAlone f g b k out (Err e) s = NotExtracted f g b k out e s

-- revision k of the book b, drawn out into the store `out`; what was drawn is always accepted
abbrev pub Extracts : {S T : Type 0} {p : Ghosts S} {q : Ghosts T} → (S → Meaning) → (T → Meaning) → Book S p → ℕ → T → Result (Book T q) (Stopped T ExtractError) → Type 0
Extracts f g b k out (Ok n) =
    ((g out).bytes ≡ []) × (ask_draw (moment_of f b) k (g out).space ≡ Ok (g (store_in n)).bytes) × Sound g n × Alone (moment_of f b) k (moment_of g n)
Extracts f g b k out (Err e) = NotExtracted f g b k out e.cause e.store
