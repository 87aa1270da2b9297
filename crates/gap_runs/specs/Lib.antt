pub mod Befores
pub mod Shapes
pub mod Traces
pub mod Paths
pub mod Gaps
