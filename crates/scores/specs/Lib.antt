pub mod Domain
pub mod Cuts
pub mod Wins
pub mod Table
pub mod Floats
pub mod Best
pub mod Whole
