pub mod Queues
pub mod Activation
pub mod Telling
pub mod Worlds
pub mod Bases
pub mod Drains
pub mod Held
pub mod Acts
pub mod Takes
pub mod Moves
pub mod Hotplug
pub mod Stages
pub mod Interrupted
pub mod Looking
pub mod Operated
pub mod Kept
pub mod AlikeRules
pub mod Starts
pub mod Plays
pub mod Lone
pub mod WalkRuns
pub mod Reached
pub mod Running
pub mod StageRuns
pub mod KeptRuns
pub mod PlayedRuns
pub use Rattle.core_facts.proofs as core_facts
pub use Rattle.play_laws.proofs as play_laws
