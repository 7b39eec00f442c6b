pub mod Lays
pub mod Once
