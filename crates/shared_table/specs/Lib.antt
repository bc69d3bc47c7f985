pub mod Begun
pub mod Ended
pub mod Joined
pub mod Readied
pub mod Spelled
pub mod Endings
pub use Rattle.shared_rule.specs.core_state as core_state
pub use Rattle.shared_rule.specs as shared_rule
