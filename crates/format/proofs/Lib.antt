pub mod Sample
pub mod RoundTrip
pub mod Decoding
pub mod Ends
pub mod Fields
pub mod Passed
pub mod Words
