pub mod Improved
pub mod Turned
