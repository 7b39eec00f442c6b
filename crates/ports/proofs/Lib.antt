pub mod Spread
pub mod Uploads
pub mod Once
