pub mod Bridge
pub mod Ways
pub mod Loops
