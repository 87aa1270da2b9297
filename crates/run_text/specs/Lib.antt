pub mod Tells
pub mod States
pub mod Reading
pub mod Behind
