pub mod Decides
pub mod Complete
