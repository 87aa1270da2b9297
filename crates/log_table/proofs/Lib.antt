pub mod ColumnLemmas
pub mod CellLemmas
pub mod TimeLemmas
pub mod EntryLemmas
pub mod TableLemmas
pub mod SampleLemmas
pub mod OpeningLemmas
pub mod RunLemmas
