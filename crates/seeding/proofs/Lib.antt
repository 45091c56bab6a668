pub mod Halves
pub mod Sorted
pub mod Finding
pub mod Parts
