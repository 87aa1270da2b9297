pub mod ExprMachine
pub mod RowMachine
pub mod Texts
pub mod Views
