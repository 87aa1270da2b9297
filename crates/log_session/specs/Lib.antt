pub mod Tallies
pub mod Progress
pub mod Parts
pub mod Refusals
pub mod Told
pub mod Behind
