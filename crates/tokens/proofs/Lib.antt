pub mod Sums
pub mod Lists
pub mod Turns
pub mod Both
pub mod Theorems
