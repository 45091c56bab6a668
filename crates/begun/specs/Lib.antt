pub mod Words
pub mod First
pub mod Here
