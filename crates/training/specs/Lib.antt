pub mod Train
