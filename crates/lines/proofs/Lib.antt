-- Laws over plain numbers and lists, which the proofs of the functions cite.
pub mod Streaming
pub mod Theorems
pub mod Said
