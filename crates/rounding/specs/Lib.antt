pub mod Units
pub mod Grid
