pub mod Pieces
pub mod Lattice
pub mod Pruning
pub mod Layout
pub mod Written
