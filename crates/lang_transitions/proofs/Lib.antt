pub mod ActLaws
pub mod ActLimits
pub mod ActLine
pub mod GuardEnds
pub mod TransitionLaws
pub mod TransitionLine
