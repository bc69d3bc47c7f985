pub mod Guests
pub mod Pairs
pub mod Conditions
pub mod Steps
pub use Rattle.shared_rule.specs.core_facts as core_facts
pub use Rattle.shared_rule.specs.core_parts as core_parts
pub use Rattle.shared_rule.specs.core_state as core_state
pub use Rattle.shared_rule.specs as shared_rule
