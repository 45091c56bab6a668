pub mod Fraction
pub mod Bounds
