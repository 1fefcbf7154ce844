pub mod Items
pub mod Tangle
pub mod Forest
