pub mod Signed
pub mod Bytes
pub mod Inverse
pub mod Table
pub mod HeldBits
pub mod HeldOnce
pub mod Determined
