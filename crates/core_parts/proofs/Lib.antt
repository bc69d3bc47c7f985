pub mod Oldest
mod Pairs
mod Ranges
pub mod Readings
mod Rooms
mod Under
pub use Rattle.core_world.proofs as core_world
