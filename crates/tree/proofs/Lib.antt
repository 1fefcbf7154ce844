pub mod Tree
pub mod Places
pub mod Names
pub mod ByNumber
