pub mod Locality
pub mod LocalityObjects
pub mod LocalityFrames
pub mod LocalityTrailers
