pub mod Walks
pub mod Edges
pub mod Locks
pub mod Cpus
pub mod Marks
pub mod Wakeups
pub mod Events
pub mod Timers
pub mod Origins
pub mod Tops
pub mod Start
mod Together
