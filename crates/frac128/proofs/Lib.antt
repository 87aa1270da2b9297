pub mod OrderLemmas
pub mod PartLemmas
pub mod RangeLemmas
pub mod DigitLemmas
pub mod DecimalLemmas
pub mod CommonLemmas
