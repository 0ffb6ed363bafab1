pub use Rattle.numerals.specs.Numbers
pub mod Commands
pub mod Excerpts
pub mod Runs
pub mod Advice
pub mod Differences
pub mod Told
