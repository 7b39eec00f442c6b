pub mod Codes
pub mod Decoded
