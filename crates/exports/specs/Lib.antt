pub mod Writing
pub mod Planning
