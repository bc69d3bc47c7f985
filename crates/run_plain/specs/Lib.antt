pub mod Apart
pub mod Plain
pub use Rattle.run_story.specs.core_facts as core_facts
pub use Rattle.run_story.specs.step_play as step_play
pub use Rattle.run_story.specs as run_story
