pub mod Edges
pub mod Readback
pub mod Sound
pub mod Unique
pub mod Converse
pub mod Built
pub mod Theorems
