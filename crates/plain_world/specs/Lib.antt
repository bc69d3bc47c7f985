pub mod Groups
pub mod Limits
pub mod Makes
pub mod Planned
pub mod Same
pub mod Timers
pub mod Worlds
