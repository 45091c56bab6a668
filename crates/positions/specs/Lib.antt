pub mod Positions
pub mod Gathered
pub mod Steps
