pub mod Distinct
pub mod Words
pub mod Pieces
pub mod First
