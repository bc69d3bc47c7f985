-- what a step of a walk makes of a group, for crates above
pub use Rattle.core_parts.specs.declared.change.GroupChange.TheVariants.{Mark, Join, Leave, Lock}
pub use Rattle.core_parts.specs.declared.change.GroupChange.TheVariants.{Free, Store}
