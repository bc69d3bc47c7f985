-- wheel expiries of a timer that moves from one CPU to another, for crates above
pub use Rattle.core_parts.specs.Moves.{wheel_in, wheel_moved}
