pub mod Enabling
pub mod Names
pub mod Lines
pub mod Threads
pub mod Leading
pub mod Orders
