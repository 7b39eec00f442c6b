pub mod ListVerdict
pub mod Read
