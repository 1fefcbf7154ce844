pub mod Planned
pub mod Places
pub mod Filled
pub mod Order
pub mod Chunk
