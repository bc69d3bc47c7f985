pub mod Seen
pub mod Words
pub mod Tree
pub mod Walks
pub mod Rests
pub mod Whom
pub mod Counts
