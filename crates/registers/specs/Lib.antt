pub mod State
pub mod Held
pub mod Tables
pub mod Applied
pub mod Single
pub mod Lent
