pub mod Texts
pub mod Integers
mod Tested
pub mod Sums
mod Years
mod Months
mod Eras
pub mod Dates
mod Shift
mod Ranges
mod Rendered
pub mod Count
pub mod Edges
pub mod Answers
pub mod Halves
pub mod Numbers
pub mod Pads
mod Passes
mod Signs
pub mod Spells
pub mod Sizes
mod Wholes
pub mod Floor
