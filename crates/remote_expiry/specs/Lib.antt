pub mod Runs
pub mod Replies
pub mod Following
pub mod Order
pub mod Stopping
pub mod Interrupts
pub mod Running
pub mod Trying
pub use Rattle.shared_acts.specs.shared_timers as shared_timers
pub use Rattle.shared_calls.specs as shared_calls
pub use Rattle.shared_acts.specs.shared_looks as shared_looks
