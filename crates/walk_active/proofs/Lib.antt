mod Ending
mod Rising
pub use Rattle.shared_cpus.proofs.shared_rule as shared_rule
