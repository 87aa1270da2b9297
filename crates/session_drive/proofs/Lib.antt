pub mod DrivenOver
pub mod FoundKeys
