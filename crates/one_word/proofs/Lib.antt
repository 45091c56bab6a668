pub mod Spans
pub mod Checking
pub mod Laid
pub mod Cutting
pub mod Theorems
