pub mod RunTexts
pub mod RunTextFaults
pub mod RunChecks
