pub mod All
pub use Rattle.linux_rules.specs as linux_rules
