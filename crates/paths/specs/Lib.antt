pub mod Tests
pub mod Entries
pub mod Upward
