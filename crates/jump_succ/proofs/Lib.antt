pub mod JumpRowLemmas
pub mod JumpLemmas
