pub mod Driven
pub mod Entries
pub mod Parts
pub mod Refusals
