pub mod Changes
pub mod Kept
pub mod Moves
pub mod Shown
pub mod Status
pub mod Tally
pub use Rattle.core_facts.specs as core_facts
pub use Rattle.core_facts.specs.core_laws as core_laws
pub use Rattle.core_parts.specs as core_parts
