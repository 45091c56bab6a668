pub mod Put
pub mod Lay
