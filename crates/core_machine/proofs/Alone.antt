pub mod Ends
pub mod Frames
pub mod Kinds
pub mod Lone
