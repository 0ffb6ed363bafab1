-- Entries as the definitions say them.
pub use Rattle.entries.specs.Rows.{slot_of}
