pub mod Laid
pub mod Once
