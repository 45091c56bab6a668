-- Laws over plain numbers and lists, which the proofs of the functions cite.
pub mod Decoding
pub mod Framed
pub mod Lines
pub mod Theorems
pub mod Fitting
pub mod Examples
