pub mod FitLemmas
pub mod DivisorLemmas
pub mod EvaluationLemmas
pub mod MixLemmas
pub mod ColumnLemmas
pub mod RowLemmas
