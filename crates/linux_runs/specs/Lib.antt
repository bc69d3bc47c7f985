pub mod Runs
pub mod Differences
