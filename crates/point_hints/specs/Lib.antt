pub mod Showing
pub mod Summing
