pub mod Corpus
pub mod Check
pub mod Kept
pub mod Steps
