pub mod Filled
pub mod Most
pub mod Building
