pub mod Rows
mod Journals
pub mod Closing
pub mod Parting
pub mod Sends
pub mod Moving
pub mod Starting
pub mod Growing
pub mod Stands
mod Answered
mod Arming
mod Cancelling
mod Resting
mod Answering
pub mod Running
pub use Rattle.run_story.proofs as run_story
