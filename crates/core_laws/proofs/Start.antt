pub mod Cpus
pub mod Groups
pub mod Starts
