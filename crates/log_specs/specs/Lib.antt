pub mod SessionNames
pub mod Fields
pub mod LogRows
pub mod LogSessions
pub mod Blocks
pub mod LogReports
pub mod Examples
pub mod AlarmExamples
