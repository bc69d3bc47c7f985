pub mod Kinds
pub mod Left
pub mod Covers
pub mod Runs
pub mod Runners
pub mod Journals
