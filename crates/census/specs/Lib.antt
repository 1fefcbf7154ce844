pub mod Entered
pub mod Bounds
