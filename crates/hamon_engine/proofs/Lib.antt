pub mod ModelLemmas
pub mod TellingLemmas
pub mod ReportLemmas
pub mod ReplayLemmas
pub mod CommandLemmas
pub mod RunLemmas
