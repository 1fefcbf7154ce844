pub mod Stream
pub mod Notes
pub mod Groups
pub mod Feed
