mod ListLemmas
mod FindLemmas
mod TotalLemmas
mod RowLemmas
mod PassLemmas
mod ComparisonLemmas
