pub mod Retain
pub mod Moves
pub mod Remaps
pub mod Cleared
pub mod Calls
