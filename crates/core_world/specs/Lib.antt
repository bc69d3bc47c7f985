pub mod World
pub mod Steps
pub mod Enabled
pub mod Lists
pub mod Frames
pub mod Start
pub mod Wakeups
pub mod IdleTop
pub mod Marks
pub mod Timers
pub mod Origins
pub mod Covered
pub mod Lawful
pub use Rattle.coverage.specs as coverage
pub use Rattle.cpu_bases.specs as cpu_bases
pub use Rattle.walk_rules.specs.event_queue as event_queue
pub use Rattle.walk_rules.specs.group_word as group_word
pub use Rattle.walk_rules.specs.tree_plan as tree_plan
pub use Rattle.walk_rules.specs as walk_rules
