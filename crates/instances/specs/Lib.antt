pub mod Cursor
pub mod Stretch
