pub mod Cached
pub mod Held
