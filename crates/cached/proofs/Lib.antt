pub mod Spans
pub mod Chains
pub mod Readback
pub mod Fronts
pub mod Converse
pub mod Words
pub mod Theorems
