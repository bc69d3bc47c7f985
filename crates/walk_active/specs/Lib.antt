pub mod Activated
pub mod Climbing
pub use Rattle.shared_cpus.specs.core_parts as core_parts
pub use Rattle.shared_cpus.specs.core_state as core_state
pub use Rattle.shared_cpus.specs as shared_cpus
pub use Rattle.shared_cpus.specs.shared_rule as shared_rule
pub use Rattle.shared_table.specs as shared_table
pub use Rattle.shared_walks.specs as shared_walks
