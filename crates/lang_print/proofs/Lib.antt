pub mod PageLemmas
pub mod StrictLemmas
