mod Bits
pub mod Read
mod Lists
mod Values
mod Columns
mod Refs
mod Equal
pub mod Parts
pub mod SameLaws
pub mod Samples
