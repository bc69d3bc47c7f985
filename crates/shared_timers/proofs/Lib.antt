mod Drained
pub mod Unqueued
pub mod Kept
pub mod Exchanged
pub mod Cancelled
pub mod Tried
pub mod Outgoing
pub mod Visits
pub use Rattle.shared_rule.proofs as shared_rule
