pub mod Behind
pub mod Counting
pub mod Ending
pub mod Leaves
pub mod Ordered
pub mod Passes
pub mod Rows
pub mod Spelling
pub mod Spots
pub mod Together
pub mod Spellings
pub mod Queued
pub mod Finished
pub use Rattle.shared_rule.proofs as shared_rule
