pub mod Faults
pub mod Stands
pub mod Goes
pub mod Whole
pub mod Calls
pub mod Once
