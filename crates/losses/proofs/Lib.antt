pub mod Laid
pub mod Filling
pub mod Choices
pub mod Patterns
pub mod Signs
pub mod Theorems
pub mod Examples
