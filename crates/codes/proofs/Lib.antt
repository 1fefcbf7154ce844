pub mod Laws
pub mod Listing
pub mod Reading
pub mod Coding
pub mod Whole
pub mod Refutes
