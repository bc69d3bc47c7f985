pub mod Parts
pub mod Numbers
pub mod Fields
pub mod Times
pub mod Timers
pub mod Lines
