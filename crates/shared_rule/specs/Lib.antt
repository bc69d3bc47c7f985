pub mod Whole
pub mod Shows
pub mod Rule
pub mod Starts
pub mod CoreLaws
pub mod Plays
pub mod Laws
pub mod Turns
pub mod TurnLaws
pub mod Timers
pub mod TimerLaws
pub mod Runs
pub mod Running
pub mod Receipts
pub mod Parts
pub mod Passes
pub mod Slots
pub mod Free
pub use Rattle.core_state.specs.core_facts as core_facts
pub use Rattle.core_state.specs.core_parts as core_parts
pub use Rattle.core_state.specs as core_state
