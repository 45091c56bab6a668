pub mod Lines
pub mod Said
