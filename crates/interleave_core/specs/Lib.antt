pub mod Courses
pub mod Events
pub mod Played
pub mod Replies
pub mod Seats
pub mod Views
