pub mod Choices
pub mod Tables
pub mod Outcome
pub mod Tests
pub mod Ranges
