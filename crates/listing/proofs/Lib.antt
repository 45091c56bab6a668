pub mod Checking
pub mod Words
pub mod Listing
