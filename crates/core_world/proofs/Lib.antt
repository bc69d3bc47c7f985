pub mod Moves
pub mod Quiet
pub mod Sizes
