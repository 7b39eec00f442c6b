pub mod Rows
pub mod Standing
pub mod Listed
pub mod Once
