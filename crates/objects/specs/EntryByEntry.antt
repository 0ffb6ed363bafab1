-- The entries of a dictionary, one by one, as its tree has them.
use Rattle.std.specs.Prelude.{◌≡◌, ℕ, suc, ◌-◌, ◌<◌, ◌≤◌, length, take, drop, Some, None}
use Rattle.format.specs.Bytes.{Bytes, ok}
use Rattle.format.specs.Objects.{Obj, Entries, no_entries, more_entries, object_by}
use Rattle.lexer.specs.Spelled.{spelled}
use Rattle.objects.specs.declared.shape.Entry.{Entry}
use Rattle.objects.specs.Nexts.{entry_in}
use Rattle.objects.specs.Shapes.{shape_of}

-- The entry that stands next from the place p of the bytes on is the one of the tree: its key k, which its name's bytes behind the `/` spell,
-- the key's bytes kb, and its value o with its bytes vb.
pub record EntryStands (src : Bytes) (p : ℕ) (k kb vb : Bytes) (o : Obj) (e : Entry) : Type 0 where
  pub found : entry_in src p ≡ Some e
  pub name : k ≡ spelled (take (e.behind - suc e.key) (drop (suc e.key) src))
  pub key_bytes : kb ≡ take (e.behind - e.key) (drop e.key src)
  pub value_bytes : vb ≡ take (e.value.end - e.value.start) (drop e.value.start src)
  pub shape : shape_of o ≡ e.value.shape
  pub reads : object_by 31 e.value.start (drop e.value.start src) ≡ ok o e.value.end (drop e.value.end src)
  pub starts : p ≤ e.key
  pub named : e.key < e.behind
  pub apart : e.behind ≤ e.value.start
  pub valued : e.value.start < e.value.end
  pub ends : e.value.end ≤ length src

-- from the place p of the bytes on, the entries one by one are those of the tree, and none behind them
abbrev pub EntriesFrom : Bytes → ℕ → Entries → Type 0
EntriesFrom src p no_entries = entry_in src p ≡ None
EntriesFrom src p (more_entries k kb vb o es) = (e : Entry) × EntryStands src p k kb vb o e × EntriesFrom src e.value.end es
