-- What an open update holds.
use Rattle.std.specs.Prelude.{◌≡◌, true, length}
use Rattle.entries.specs.Reserving.{items_of}
use Rattle.format.specs.Bytes.{Bytes}
use Rattle.format.specs.Updates.{Update}
use Rattle.writer.specs.declared.change.Content.{Content}
use Rattle.writer.specs.declared.held.Held.{Held}
use Rattle.writer.specs.Changes.{update_in, within}

-- the bytes of the bodies, one behind the other
abbrev pub pool_of : Held → Bytes
pool_of h = items_of h.bodies

-- the update
abbrev pub update_of : Held → Update
update_of h = update_in (pool_of h) (items_of h.changes)

-- a body lies among the bytes kept
abbrev pub Kept : Held → Content → Type 0
Kept h c = within (length (pool_of h)) c ≡ true
