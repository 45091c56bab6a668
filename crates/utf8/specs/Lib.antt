pub mod Grammar
pub mod Encode
pub mod Decode
pub mod Chars
pub mod Order
