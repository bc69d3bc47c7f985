pub mod Replies
pub mod Standard
