pub mod TallyLemmas
pub mod StreamLemmas
pub mod WriteLemmas
pub mod Progress
