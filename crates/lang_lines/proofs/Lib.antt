pub mod ShortSteps
pub mod Readings
pub mod Agreements
pub mod ShortLaws
