pub mod Counting
pub mod Bounding
pub mod Widths
pub mod EnteredLaws
