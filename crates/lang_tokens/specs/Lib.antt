pub mod Gives
pub mod Kinds
pub mod LineFaults
pub mod Machines
pub mod Places
