pub mod Cut
pub mod Checked
pub mod Sums
