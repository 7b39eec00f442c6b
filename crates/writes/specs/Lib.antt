pub mod Listed
pub mod Rows
