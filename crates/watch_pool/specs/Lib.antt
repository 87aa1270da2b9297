pub mod Closed
pub mod Counted
pub mod Found
pub mod OneSample
pub mod Slots
