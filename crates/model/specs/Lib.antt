pub mod Model
pub mod Nodes
pub mod Loop
