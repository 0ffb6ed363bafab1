pub mod Endings
pub mod Flaws
pub mod Heads
pub mod Numerals
pub mod Spelled
pub mod Views
