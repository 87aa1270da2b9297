pub mod LogSamples
pub mod PlusSigns
pub mod Findings
