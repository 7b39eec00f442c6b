pub mod Kept
pub mod Unbuilt
pub mod Widths
pub mod Determined
