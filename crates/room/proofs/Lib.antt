pub mod Parts
pub mod Theorems
