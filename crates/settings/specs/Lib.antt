pub mod Ranges
pub mod Rasteriser
pub mod Stages
pub mod Colours
pub mod Framebuffer
pub mod Settings
pub mod Fields
pub mod Flat
