pub mod Filled
pub mod Asking
pub mod Index
