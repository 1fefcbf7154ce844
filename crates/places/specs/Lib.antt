pub mod Fits
pub mod Spots
pub mod Triggers
