pub mod Standing
pub use Rattle.core_state.proofs.core_laws as core_laws
