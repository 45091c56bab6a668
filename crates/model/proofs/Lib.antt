pub mod Nodes
pub mod Small
pub mod Kept
pub mod Loop
pub mod Theorems
pub mod Examples
