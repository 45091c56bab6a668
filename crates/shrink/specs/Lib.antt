pub mod At
pub mod Steps
pub mod Lent
