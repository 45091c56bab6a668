pub mod Bytes
pub mod Frames
pub mod Sequence
pub mod Order
pub mod Answers
