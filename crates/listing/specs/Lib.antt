pub mod Start
pub mod Steps
