pub mod Knowing
pub mod Going
pub use Rattle.step_play.proofs as step_play
