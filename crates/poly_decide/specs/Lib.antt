pub mod Caps
pub mod Bounded
pub mod Pruned
pub mod Outside
