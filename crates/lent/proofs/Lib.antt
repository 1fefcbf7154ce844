-- The laws of storing, for the crates above.
pub mod Laws
pub mod Fit
