pub mod Leaving
pub mod Holding
