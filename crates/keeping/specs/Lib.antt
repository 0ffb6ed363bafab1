pub mod Staying
pub mod Telling
pub mod Answering
pub mod Committing
pub mod Driving
pub mod Delivering
pub mod Standing
