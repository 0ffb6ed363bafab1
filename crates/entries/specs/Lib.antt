pub mod Rows
pub mod Cells
pub mod Tables
pub mod Reserving
