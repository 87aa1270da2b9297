pub mod ListLemmas
pub mod FirstLemmas
pub mod NameLemmas
pub mod BoxLemmas
pub mod RowLemmas
pub mod SmallLemmas
