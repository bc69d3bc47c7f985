pub use Rattle.program_replies.specs.DayText
pub use Rattle.program_replies.specs.Scripts
pub use Rattle.program_replies.specs.Replies
pub use Rattle.program_replies.specs.Steps
pub use Rattle.program_replies.specs.Statuses
pub use Rattle.program_replies.specs.Causes
