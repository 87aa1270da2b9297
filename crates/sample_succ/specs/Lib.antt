pub mod Plain
pub mod Starts
pub mod Covers
pub mod Walks
pub mod Parts
pub mod LastLegs
