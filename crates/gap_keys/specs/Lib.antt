pub mod Answering
pub mod Feeding
pub mod States
pub mod Views
