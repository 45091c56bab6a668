pub mod Slices
pub mod Walk
pub mod Path
pub mod Answers
pub mod Outcome
pub mod Excluding
