pub mod LogAdd
pub mod Edges
pub mod Sums
