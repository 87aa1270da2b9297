pub mod Lines
pub mod ShortMachine
pub mod Views
