pub mod Chars
pub mod Zeros
pub mod Steps
pub mod Lattices
pub mod Words
