pub mod Widths
pub mod Names
pub mod Candidates
pub mod Reader
pub mod Reading
