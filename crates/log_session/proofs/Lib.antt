pub mod BehindLemmas
pub mod ToldLemmas
pub mod ReadLemmas
pub mod LineLemmas
pub mod HeaderLemmas
pub mod RowLemmas
