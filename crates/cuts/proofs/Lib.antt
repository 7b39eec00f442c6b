pub mod Rests
pub mod Choice
pub mod Steps
pub mod Least
pub mod Most
