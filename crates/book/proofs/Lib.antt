pub mod Copied
pub mod Steps
pub mod Sames
pub mod Questioned
pub mod Obstacles
pub mod Performed
pub mod Committed
pub mod Compared
