mod Meetings
mod Answering
pub use Rattle.walk_active.proofs.shared_rule as shared_rule
