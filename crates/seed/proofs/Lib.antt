pub mod Slices
pub mod Corpora
pub mod Top
pub mod Theorems
