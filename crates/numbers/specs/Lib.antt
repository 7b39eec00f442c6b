pub mod Pick
pub mod Ranges
pub mod Bits
pub mod Answer
pub mod Room
pub mod Settled
