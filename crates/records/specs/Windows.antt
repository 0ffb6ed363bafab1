-- What a window shows.
use Rattle.std.specs.Prelude.{take, vec_items}
use Rattle.format.specs.Bytes.{Bytes}
use Rattle.records.specs.declared.window.Window.{Window}

abbrev pub seen_in : Window → Bytes
seen_in w = take w.used (vec_items w.bytes)
