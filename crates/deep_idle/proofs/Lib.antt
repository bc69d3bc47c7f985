pub mod Queues
pub mod Rooms
pub mod Kept
pub mod Waking
pub mod Settled
