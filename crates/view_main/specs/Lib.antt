pub mod Words
pub mod Refusals
pub mod Outputs
pub mod Ends
pub mod Pairs
