pub mod Counts
pub mod Rows
pub mod Columns
pub mod Wakeups
pub mod Differences
