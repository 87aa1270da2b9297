pub mod DivisorLemmas
