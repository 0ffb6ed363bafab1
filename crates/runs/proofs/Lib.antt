pub mod Ties
pub mod Drawing
pub mod Making
pub mod Working
pub mod Extracting
