pub mod Alone
pub mod Views
pub mod Covers
pub mod Draining
pub mod Calls
pub use Rattle.core_steps.proofs.core_laws as core_laws
pub use Rattle.step_play.proofs.play_laws as play_laws
pub use Rattle.step_play.proofs as step_play
