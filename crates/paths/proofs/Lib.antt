pub mod BelowLaws
pub mod Tests
pub mod Bridge
pub mod Answers
pub mod Whole
pub mod Walks
