pub mod Cell
pub mod Equality
pub mod Samples
pub mod Answers
pub mod Parts
