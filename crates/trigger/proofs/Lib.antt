pub mod Laws
pub mod Givens
pub mod Draws
pub mod Openers
pub mod Names
