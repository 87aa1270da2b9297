pub mod KeyEquality
pub mod StateLemmas
