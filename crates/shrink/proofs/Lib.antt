pub mod Fronts
pub mod Good
pub mod Weighed
pub mod Narrowed
pub mod Cut
pub mod Lent
