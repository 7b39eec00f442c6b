pub mod Signed
pub mod Clamped
pub mod Results
pub mod Parts
pub mod Idle
pub mod Tables
pub mod Mixed
pub mod Determined
