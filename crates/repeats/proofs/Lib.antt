pub mod Hashes
pub mod Walks
pub mod Theorems
