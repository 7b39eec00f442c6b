pub mod Text
pub mod Words
pub mod Inputs
pub mod Once
