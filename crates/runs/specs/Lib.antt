pub mod Span
pub mod PackedList
pub mod Shortest
