pub mod Exchanging
pub mod Entries
pub mod Queueing
pub mod Draining
pub use Rattle.shared_rule.specs.core_state as core_state
pub use Rattle.shared_rule.specs as shared_rule
