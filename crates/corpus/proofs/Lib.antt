pub mod Measures
pub mod Chosen
pub mod Keeps
pub mod Fronts
pub mod Theorems
