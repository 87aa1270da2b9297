pub mod NumberLemmas
pub mod OptionLemmas
pub mod RequestLemmas
pub mod LawLemmas
