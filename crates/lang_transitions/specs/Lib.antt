pub mod ActMachine
pub mod ActViews
pub mod TransitionMachine
pub mod Views
