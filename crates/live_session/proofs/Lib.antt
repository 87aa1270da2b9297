pub mod LastLemmas
pub mod PlacingLemmas
pub mod KeyLemmas
pub mod VerdictLemmas
pub mod StepLemmas
pub mod StoredLemmas
pub mod DrivenLemmas
