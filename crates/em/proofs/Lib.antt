pub mod Reaching
pub mod Turns
pub mod Spans
pub mod Times
pub mod Counts
pub mod Amounts
pub mod Lengths
pub mod Theorems
