pub mod Uses
pub mod Steps
pub mod Whole
