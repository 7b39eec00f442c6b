pub mod Channels
pub mod Comparisons
pub mod Widths
pub mod Kept
pub mod Determined
