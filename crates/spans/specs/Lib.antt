pub mod Spans
pub mod Check
