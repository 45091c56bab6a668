pub mod Chars
pub mod Walks
pub mod Grid
pub mod Word
