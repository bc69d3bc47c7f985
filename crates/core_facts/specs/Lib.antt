pub mod Cover
pub mod Worked
pub mod Exchanges
pub mod Handing
pub mod Invariant
pub mod Holders
pub mod Levels
pub mod Marked
pub mod Places
pub mod Played
pub mod Ranges
pub mod Reach
pub mod Stepping
pub mod Told
pub mod Walkers
pub use Rattle.core_laws.specs as core_laws
pub use Rattle.event_queue.specs as event_queue
pub use Rattle.walk_rules.specs as walk_rules
