pub mod Settings
pub mod Check
