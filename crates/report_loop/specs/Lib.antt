pub mod Codes
pub mod Tasks
pub mod Names
pub mod Outcome
pub mod Turns
