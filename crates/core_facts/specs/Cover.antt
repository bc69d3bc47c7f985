pub mod Headline
pub mod Runs
pub mod Once
pub mod Rest
