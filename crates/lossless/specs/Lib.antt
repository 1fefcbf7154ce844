pub mod Due
pub mod Separators
pub mod NothingLost
pub mod ClosersNumber
pub mod Example
pub mod Sample
