pub mod Adding
pub mod Paths
pub mod Spans
pub mod Whole
pub mod Theorems
pub mod Examples
