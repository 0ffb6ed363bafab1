-- Where a reader stands.
use Rattle.std.specs.Prelude.{ℕ, ◌+◌, drop}
use Rattle.format.specs.Bytes.{Bytes}
use Rattle.opening.specs.declared.view.View.{View}

-- the place of the file
abbrev pub spot : View → ℕ
spot view = view.base + view.at.place

-- the bytes from there on
abbrev pub rest : View → Bytes
rest view = drop view.at.place view.at.src.now
