pub mod Doing
pub mod Standing
pub mod Lines
pub mod Tasks
pub mod Progress
pub use Rattle.idle_wakeup.specs.shared_rule as shared_rule
pub use Rattle.idle_wakeup.specs.shared_table as shared_table
pub use Rattle.run_story.specs as run_story
