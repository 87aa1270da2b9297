pub mod Literals
pub mod Tanks
pub mod Shutters
pub mod Sums
pub mod Fixed
pub mod Coprimes
