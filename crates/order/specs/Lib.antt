pub mod Sort
pub mod Spelling
pub mod Orders
pub mod Totals
pub mod Merging
pub mod Steps
