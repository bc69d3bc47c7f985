pub mod CauseTexts
pub mod Causes
pub mod CauseParts
pub use Rattle.step_core.specs.core_facts as core_facts
pub use Rattle.step_core.specs.core_state as core_state
