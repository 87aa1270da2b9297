pub mod Tables
pub mod Columns
pub mod Refusals
pub mod Parts
pub mod FirstRuns
