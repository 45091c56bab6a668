pub mod Bridge
pub mod Refusing
pub mod Theorems
pub mod Builds
