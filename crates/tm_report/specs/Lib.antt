pub mod Words
pub mod Replies
pub mod Covers
pub mod Reasons
pub mod Lines
pub mod Drafts
