pub mod Parts
pub mod Constraints
pub mod Automata
pub mod Faults
pub mod Examples
