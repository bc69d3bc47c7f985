pub mod Rules
pub mod Queues
pub mod SamePlay
pub use Rattle.core_facts.specs as core_facts
pub use Rattle.play_laws.specs as play_laws
