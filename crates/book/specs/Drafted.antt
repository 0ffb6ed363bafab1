-- An open update that was laid down as bytes, before it is committed.
use Rattle.std.specs.Prelude.{◌≡◌, ℕ, length}
use Rattle.stores.specs.Meanings.{Meaning}
use Rattle.stores.specs.declared.store.Store.{Ghosts}
use Rattle.format.specs.Book.{addition, newest}
use Rattle.format.specs.Writing.{update_objects}
use Rattle.writer.specs.Writers.{bytes_of}
use Rattle.book.specs.declared.book.Book.{Book}
use Rattle.book.specs.Books.{update_in}

-- the bytes laid down are those of the update, and so many of them are its objects
pub record Drafted {S : Type 0} {g : Ghosts S} (meaning : S → Meaning) (b : Book S g) (objects : ℕ) : Type 0 where
  pub bytes : bytes_of b.memory.writer ≡ addition (meaning b.store).bytes (update_in b)
  pub count : objects ≡ length (update_objects (length (meaning b.store).bytes) (newest (meaning b.store).bytes) (update_in b))

-- laying it down changes nothing that the book shows
pub record Drafts {S : Type 0} {g : Ghosts S} (meaning : S → Meaning) (b : Book S g) (objects : ℕ) (b' : Book S g) : Type 0 where
  pub store : b'.store ≡ b.store
  pub phase : b'.phase ≡ b.phase
  pub tables : b'.memory.tables ≡ b.memory.tables
  pub held : b'.memory.held ≡ b.memory.held
  pub drafted : Drafted meaning b' objects
