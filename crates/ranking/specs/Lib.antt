pub mod Corpus
pub mod Ranked
pub mod Seed
pub mod Scores
pub mod Positions
pub mod Counting
pub mod Slots
