pub mod Asking
pub mod Wants
pub use Rattle.core_steps.specs.core_facts as core_facts
pub use Rattle.core_steps.specs.core_laws as core_laws
pub use Rattle.core_steps.specs.core_state as core_state
