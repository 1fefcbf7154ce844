pub mod Answer
pub mod Result
pub mod Refused
pub mod Lists
pub mod Wrote
pub mod Filled
pub mod Numbers
