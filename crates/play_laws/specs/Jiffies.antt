pub mod Jiffies
pub mod Looks
