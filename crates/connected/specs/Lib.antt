pub mod Word
pub mod Cut
pub mod Marks
