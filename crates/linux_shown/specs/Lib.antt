pub mod Pieces
pub mod Before
pub mod Names
pub mod Facts
pub mod Timers
pub mod Wanted
pub mod Shown
pub use Rattle.linux_rules.specs as linux_rules
pub use Rattle.linux_lines.specs as linux_lines
