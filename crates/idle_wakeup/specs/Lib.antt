pub mod Calls
pub mod Resting
pub use Rattle.walk_active.specs.core_parts as core_parts
pub use Rattle.walk_active.specs.core_state as core_state
pub use Rattle.walk_active.specs.shared_cpus as shared_cpus
pub use Rattle.walk_active.specs.shared_rule as shared_rule
pub use Rattle.walk_active.specs.shared_table as shared_table
pub use Rattle.walk_active.specs.shared_walks as shared_walks
