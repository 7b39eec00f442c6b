pub mod Checks
pub mod Packs
pub mod Once
pub mod Looking
