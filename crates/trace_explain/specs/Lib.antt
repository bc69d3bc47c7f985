pub mod Walks
pub mod Sentences
pub mod Answers
pub mod Explained
pub mod Telling
pub use Rattle.trace_check.specs as trace_check
