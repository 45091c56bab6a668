pub mod Ranks
pub mod Steps
