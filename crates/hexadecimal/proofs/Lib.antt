-- Laws over plain numbers and lists, which the proofs of the functions cite, and the theorem on what was written.
pub mod Valued
pub mod Reading
pub mod Writing
pub mod Theorems
