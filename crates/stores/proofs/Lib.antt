pub mod Overlaid
pub mod Windows
