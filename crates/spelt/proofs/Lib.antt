pub mod Rows
pub mod Theorems
