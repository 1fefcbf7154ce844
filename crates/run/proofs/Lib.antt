pub mod Reading
pub mod Taking
pub mod Few
pub mod Along
pub mod Walking
pub mod Touring
pub mod Went
