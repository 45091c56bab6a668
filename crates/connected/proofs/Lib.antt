pub mod Word
pub mod Reaching
pub mod Theorems
