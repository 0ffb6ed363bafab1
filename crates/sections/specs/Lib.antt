pub mod Spelling
pub mod Reading
pub mod Written
pub mod Found
pub mod OwnBytes
