pub mod Outside
pub mod Models
pub mod Telling
pub mod ReplayRuns
pub mod Runs
