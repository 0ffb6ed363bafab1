pub mod Consequences
pub mod WorkedRun
pub mod Orders
