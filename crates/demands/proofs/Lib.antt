pub mod NoSecond
pub mod Rows
pub mod Rounds
pub mod Demands
pub mod Examples
