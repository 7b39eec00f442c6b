pub mod Progress
pub mod Leads
