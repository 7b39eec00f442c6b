pub mod Modes
pub mod Dot
pub mod Operands
pub mod Stage
pub mod Chain
pub mod Words
