-- Laws over plain numbers and lists, which the proofs of the functions cite, and the theorems on what the places hold.
pub mod Seek
pub mod Spot
pub mod Table
pub mod Filled
pub mod Ways
pub mod Theorems
pub mod Answers
