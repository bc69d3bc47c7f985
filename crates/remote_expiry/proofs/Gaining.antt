-- what a pass gains, as shared_acts has it, for crates above
pub use Rattle.shared_acts.proofs.Gaining.{begins, begins_then, known_more, same_pass}
