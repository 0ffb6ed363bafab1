pub mod Needed
pub mod Stated
