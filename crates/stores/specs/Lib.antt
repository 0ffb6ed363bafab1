pub mod Figures
pub mod Flats
pub mod Meanings
pub mod Overlays
