pub mod Queues
pub mod Kept
pub mod Turns
pub mod Due
