pub mod Cutting
pub mod Theorems
