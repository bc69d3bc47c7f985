pub mod Guesting
pub mod Turned
pub mod Finished
pub use Rattle.shared_rule.proofs.core_state as core_state
pub use Rattle.shared_rule.proofs as shared_rule
