pub mod Runs
pub mod Following
pub mod Looks
pub mod Interrupts
pub mod Pieces
pub mod Handing
pub mod Tries
pub use Rattle.shared_looks.specs as shared_looks
pub use Rattle.shared_timers.specs as shared_timers
