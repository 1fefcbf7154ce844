pub mod Fits
pub mod Rules
pub mod Maps
pub mod Codes
