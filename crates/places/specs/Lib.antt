pub mod Walk
pub mod Map
pub mod Entries
