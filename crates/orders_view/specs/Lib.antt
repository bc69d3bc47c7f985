pub mod Words
pub mod Texts
pub mod Outputs
pub mod Ends
