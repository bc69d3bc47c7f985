pub mod Covers
pub mod Draining
pub mod Fitting
pub mod Settled
pub use Rattle.step_play.specs.play_laws as play_laws
pub use Rattle.step_play.specs as step_play
