pub mod Steps
pub mod Closing
pub mod Counts
pub mod Makes
pub mod Ways
pub mod Choices
pub mod Once
