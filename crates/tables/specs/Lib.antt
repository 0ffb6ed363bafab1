pub mod Sound
pub mod Rows
pub mod Statements
