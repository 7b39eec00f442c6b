pub mod Pair
pub mod Keeping
pub mod Once
