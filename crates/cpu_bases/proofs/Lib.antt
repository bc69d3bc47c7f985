pub mod Classes
pub mod Keyed
pub mod Legal
pub mod Agreeing
pub mod Consistent
pub mod Replays
pub mod Keeping
pub mod Drains
pub mod Steps
mod Seen
pub mod Queued
pub mod EntryKinds
pub mod Ends
pub mod Opens
pub mod Counts
