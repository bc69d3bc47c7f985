mod Lists
mod Framing
mod Looking
mod Stepping
mod Coming
mod Resting
mod Parted
mod Retelling
pub use Rattle.shared_cpus.proofs.shared_rule as shared_rule
