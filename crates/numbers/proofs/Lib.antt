pub mod Tests
pub mod Table
pub mod Merge
pub mod Copy
pub mod Answers
pub mod Room
pub mod Picks
pub mod Signed
