pub mod Changes
mod Counting
pub mod Fits
mod Holders
pub mod Making
mod MoveStep
pub mod Paths
mod Queues
mod Tallies
mod TimerSteps
pub use Rattle.core_facts.proofs.core_laws as core_laws
