pub mod Notes
pub mod Texts
pub mod Ends
pub use Rattle.linux_all.specs as linux_all
pub use Rattle.linux_all.specs.linux_rules as linux_rules
