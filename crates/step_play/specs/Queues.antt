pub mod AtRest
pub mod Choices
pub mod Leftmost
