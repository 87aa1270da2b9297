pub mod IntegerReading
pub mod PieceLemmas
pub mod LineLemmas
pub mod StateLemmas
pub mod ReadingLemmas
