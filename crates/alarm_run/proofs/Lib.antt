pub mod EntryLemmas
pub mod GapLemmas
pub mod RunAt
pub mod WalkLemmas
pub mod StepLemmas
pub mod MarkLemmas
pub mod FirstLemmas
pub mod BeginLemmas
