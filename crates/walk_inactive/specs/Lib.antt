pub mod Looks
pub mod Frames
pub mod Ends
pub mod Gates
pub mod Ways
pub use Rattle.shared_cpus.specs.core_state as core_state
pub use Rattle.shared_cpus.specs as shared_cpus
pub use Rattle.shared_cpus.specs.shared_rule as shared_rule
pub use Rattle.shared_table.specs as shared_table
