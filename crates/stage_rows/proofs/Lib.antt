pub mod SharedDivisors
pub mod ProjectionLemmas
pub mod RespellingLemmas
