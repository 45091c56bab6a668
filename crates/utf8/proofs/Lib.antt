-- Laws over plain numbers and lists, which the proofs of the functions and the theorems cite.
pub mod Tests
pub mod Position
pub mod Classed
pub mod Found
pub mod Encoded
pub mod Whole
pub mod Ordered
pub mod Spelt
pub mod Reading
pub mod Theorems
