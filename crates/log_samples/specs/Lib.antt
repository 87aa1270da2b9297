pub mod Lines
pub mod SoFar
pub mod Rows
