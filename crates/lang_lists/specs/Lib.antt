pub mod BoundMachine
pub mod BoundViews
pub mod BoxMachine
pub mod NameMachine
pub mod NameViews
pub mod SixAtMost
pub mod Views
