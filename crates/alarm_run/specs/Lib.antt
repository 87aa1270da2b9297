pub mod Entries
pub mod Lasts
pub mod Marks
pub mod Walks
pub mod Alarms
