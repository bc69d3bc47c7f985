pub mod Changes
pub mod Moves
pub mod Status
pub use Rattle.core_world.specs as core_world
