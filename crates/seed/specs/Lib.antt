pub mod Seed
pub mod Steps
