pub mod Grow
pub mod Frame
pub mod Walks
pub mod Slots
pub mod Keeps
