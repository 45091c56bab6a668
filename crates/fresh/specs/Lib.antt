pub mod Slots
pub mod Build
pub mod Steps
