pub mod Told
pub mod Cuts
