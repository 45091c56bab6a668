pub mod Spelling
pub mod Survivors
pub mod Sifted
pub mod Edges
pub mod Joined
pub mod Fronts
pub mod Flat
pub mod Theorems
