pub mod Cut
pub mod Below
pub mod Theorems
