pub mod Source
pub mod Drawn
