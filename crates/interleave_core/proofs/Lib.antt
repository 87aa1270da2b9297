pub mod ListLemmas
pub mod ReplyLemmas
pub mod AgreeLemmas
pub mod MemoLemmas
pub mod PlayedLemmas
pub mod CourseLemmas
pub mod StepLemmas
pub mod SeatLemmas
