pub mod GrowingLemmas
pub mod LineHeads
pub mod MoreLines
pub mod ReadingLemmas
