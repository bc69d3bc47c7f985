pub mod Afterwards
pub mod Frames
pub mod Settled
