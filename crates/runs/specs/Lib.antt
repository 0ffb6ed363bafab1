pub mod Made
pub mod Works
pub mod Drawn
pub mod Extracts
