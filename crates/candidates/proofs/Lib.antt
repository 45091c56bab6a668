pub mod Walks
pub mod Sums
pub mod Lengths
pub mod Places
pub mod Filling
pub mod Theorems
