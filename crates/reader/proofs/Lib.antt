pub mod Accepted
pub mod Judging
pub mod Applying
pub mod Answers
pub mod Once
