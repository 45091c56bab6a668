pub mod Turns
pub mod Scored
pub mod Ends
pub mod Theorems
