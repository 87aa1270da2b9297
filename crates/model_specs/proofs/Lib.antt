pub mod NameLemmas
pub mod TreeLemmas
pub mod WidthLemmas
pub mod SlopeLemmas
pub mod NoFaultLemmas
pub mod WellFormedLemmas
pub mod LineLemmas
