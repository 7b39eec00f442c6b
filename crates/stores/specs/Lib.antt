pub mod Compare
pub mod Stencil
pub mod Logic
pub mod Tests
pub mod Stores
