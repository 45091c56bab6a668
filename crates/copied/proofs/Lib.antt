pub mod Stores
pub mod Puts
