pub mod Wants
pub use Rattle.core_state.specs.core_facts as core_facts
pub use Rattle.core_state.specs.core_laws as core_laws
pub use Rattle.core_state.specs as core_state
