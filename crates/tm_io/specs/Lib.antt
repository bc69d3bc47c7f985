pub mod Counts
pub mod Seen
pub mod Sources
pub mod Sinks
pub mod Memory
pub mod Plain
