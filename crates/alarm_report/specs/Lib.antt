pub mod ReportLines
pub mod RunLines
