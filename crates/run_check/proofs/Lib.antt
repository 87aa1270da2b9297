pub mod StepLemmas
pub mod NumberLemmas
pub mod LegLemmas
pub mod PathLemmas
pub mod EndLemmas
pub mod LogNumberLemmas
pub mod NearLemmas
pub mod GapLemmas
