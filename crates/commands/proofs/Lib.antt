pub mod Runs
pub mod Applying
pub mod Uploads
pub mod Changes
pub mod Same
pub mod Clearing
pub mod Dropped
pub mod Once
