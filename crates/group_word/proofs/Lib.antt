pub mod Children
pub mod Words
