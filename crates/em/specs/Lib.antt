pub mod Reach
pub mod Em
pub mod Steps
