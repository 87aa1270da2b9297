pub mod ExprLaws
pub mod RowLaws
pub mod RowLimits
pub mod RowSteps
pub mod StateLaws
