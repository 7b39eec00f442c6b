pub mod Header
pub mod Commands
pub mod Writes
pub mod Reasons
pub mod Taken
