pub mod Puts
pub mod Envelope
pub mod Fold
pub mod Written
pub mod Did
pub mod Table
pub mod EdgeValues
pub mod Words
