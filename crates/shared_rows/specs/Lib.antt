pub mod Looks
pub use Rattle.shared_table.specs.shared_rule as shared_rule
pub use Rattle.shared_table.specs as shared_table
