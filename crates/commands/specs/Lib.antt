pub mod Run
pub mod ToOne
pub mod Clear
pub mod Changes
