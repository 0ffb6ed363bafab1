pub mod Gaps
pub mod Spellings
pub mod Lexing
pub mod Trees
pub mod Streams
pub mod Indirect
pub mod Reading
pub mod Examples
