pub mod Columns
pub mod Passing
