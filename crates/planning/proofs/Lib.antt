pub mod Links
pub mod Ends
pub mod Plans
pub mod RunWrites
pub mod Once
