pub mod Made
pub mod Keys
pub mod Columns
pub mod Order
pub mod Moves
pub mod Theorems
