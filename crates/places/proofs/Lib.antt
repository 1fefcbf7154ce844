pub mod Reading
pub mod Ranking
pub mod Whole
pub mod Meeting
pub mod Listing
pub mod Placing
pub mod Turning
pub mod Separate
