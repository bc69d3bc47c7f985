-- how runs and receipts go together, as shared_acts has it, for crates above
unfoldable pub use Rattle.shared_acts.specs.Following.{Follows, RunsOfSome}
pub use Rattle.shared_acts.specs.Following.{FollowsArmed, FollowsBy, FollowsOut, FoundOn, IsAgain}
pub use Rattle.shared_acts.specs.Following.{IsHandOutTold, IsOwed, IsRunOfReceipt, Owed, call_of}
pub use Rattle.shared_acts.specs.Following.{owed_by}
