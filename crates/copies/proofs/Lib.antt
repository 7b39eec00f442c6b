pub mod Copies
pub mod Once
