pub mod Prune
pub mod Survive
pub mod Compact
pub mod Losses
pub mod Steps
