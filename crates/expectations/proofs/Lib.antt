pub mod Filled
pub mod InTurn
pub mod Turns
pub mod Ends
pub mod Answers
pub mod Settled
pub mod Theorems
