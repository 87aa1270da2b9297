pub mod LegRowLemmas
pub mod LegLemmas
