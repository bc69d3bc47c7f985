pub mod Rounds
pub mod Runs
pub use Rattle.core_plays.specs as core_plays
pub use Rattle.run_plain.specs.step_play as step_play
pub use Rattle.run_plain.specs.run_story as story
