pub mod Held
pub mod Wrote
pub mod Windows
pub mod Empty
