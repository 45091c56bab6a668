pub mod Columns
pub mod Found
