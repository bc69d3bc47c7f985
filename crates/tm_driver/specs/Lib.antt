pub mod Plays
pub use Rattle.run_moments.specs.Runs
