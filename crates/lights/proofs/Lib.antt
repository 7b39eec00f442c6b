pub mod Turned
pub mod Range
pub mod Determined
