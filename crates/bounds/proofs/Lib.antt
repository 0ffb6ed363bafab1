pub mod Sizes
pub mod Bounded
pub mod Decided
