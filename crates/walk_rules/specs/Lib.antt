pub mod Hierarchy
pub mod Scene
pub mod Stages
pub mod Ranges
pub mod Standing
pub mod Edges
pub mod Clearing
pub mod Queues
pub mod Locks
pub use Rattle.event_queue.specs as event_queue
pub use Rattle.group_word.specs as group_word
pub use Rattle.tree_plan.specs as tree_plan
