pub mod Checks
pub mod Packing
pub mod Looking
