pub mod Table
pub mod Picked
pub mod Winner
pub mod Sums
pub mod Order
pub mod Floats
pub mod Whole
pub mod Theorems
