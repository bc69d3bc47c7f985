-- what an interrupt ran, as shared_acts has it, for crates above
pub use Rattle.shared_acts.specs.declared.runs.Ran.{Ran}
pub use Rattle.shared_acts.specs.declared.runs.RanReply.{RanReply}
pub use Rattle.shared_acts.specs.Runs.{RoomyRuns}
