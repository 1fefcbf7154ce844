pub mod Storing
mod Held
pub mod Cursor
pub mod EnvelopeIndex
pub mod Filled
pub mod Filling
pub mod Found
pub mod Index
pub mod Kept
pub mod ReadsLaws
pub mod RegionLaws
pub mod Rows
pub mod SegmentsLaws
pub mod Standing
pub mod VersionIs
