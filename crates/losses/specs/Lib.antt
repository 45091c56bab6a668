pub mod Losses
pub mod Order
pub mod Steps
