-- a play on the core as core_plays has it, for crates above
pub use Rattle.run_moments.specs.core_plays.declared.numbers.Summary.{Summary}
pub use Rattle.run_moments.specs.core_plays.Deep.{deep_lines, deep_text, without_device}
pub use Rattle.run_moments.specs.core_plays.Plays.{CanPlay, LawsHold, summary_of}
