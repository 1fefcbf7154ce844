pub mod Walk
pub mod Behind
pub mod Pass
pub mod Members
pub mod Asked
