pub mod Fit
pub mod Window
