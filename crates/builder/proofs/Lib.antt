pub mod Puts
pub mod Starts
pub mod Ends
pub mod Laying
pub mod Words
pub mod Build
