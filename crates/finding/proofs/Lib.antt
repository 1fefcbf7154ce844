-- For the crates above: records of a list of numbers.
pub mod Records
mod Halves
