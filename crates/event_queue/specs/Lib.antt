pub mod EventMap
pub mod Search
pub mod Word
