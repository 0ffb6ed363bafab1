pub mod Bounded
pub mod Deciding
