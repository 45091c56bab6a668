pub mod Located
pub mod View
