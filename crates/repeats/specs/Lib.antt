pub mod Going
pub mod Added
