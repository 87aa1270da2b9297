pub mod RowLemmas
pub mod SessionLemmas
pub mod ReportLemmas
pub mod ReplyLemmas
pub mod ExampleReports
pub mod ExampleTexts
pub mod LampRuns
pub mod ExampleAlarms
