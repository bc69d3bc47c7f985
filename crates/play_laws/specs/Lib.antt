pub mod Answered
pub mod Jiffies
pub mod Work
pub mod Told
