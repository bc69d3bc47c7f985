pub mod Search
pub mod Fields
