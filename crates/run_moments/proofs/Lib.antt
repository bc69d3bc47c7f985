pub mod Plain
mod Threaded
mod RoundTold
mod StoryTurns
pub use Rattle.core_plays.proofs as core_plays
