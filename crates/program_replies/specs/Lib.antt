pub mod DayText
pub mod Scripts
pub mod Replies
pub mod Steps
pub mod Statuses
pub mod Causes
pub use Rattle.run_moments.specs.story as story
