pub mod Answers
pub mod Filling
pub mod Index
pub mod Elements
pub mod Planned
