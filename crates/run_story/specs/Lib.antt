pub mod Written
pub mod Runs
pub mod Shares
pub mod Rounds
pub mod Stories
pub mod Asked
pub use Rattle.step_play.specs.core_facts as core_facts
pub use Rattle.step_play.specs as step_play
