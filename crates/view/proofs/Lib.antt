pub mod Seeing
pub mod Theorems
