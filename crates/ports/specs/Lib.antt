pub mod Ports
pub mod Uploads
