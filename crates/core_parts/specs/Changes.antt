-- what a step of a walk makes of a group
use Rattle.std.specs.Prelude.{◌<◌, Some, None}
use Rattle.core_world.specs.walk_rules.Scene.{Group}
use Rattle.core_world.specs.walk_rules.Stages.{joined_by, left_by, with_event, with_lock, with_mark}
use Rattle.core_world.specs.walk_rules.Ranges.{EventFits}
use Rattle.core_parts.specs.declared.change.GroupChange.{GroupChange}
use Rattle.core_parts.specs.declared.change.GroupChange.TheVariants as changes
pub use Rattle.core_parts.specs.declared.change.GroupChange.TheVariants.{Mark, Join, Leave, Lock}
pub use Rattle.core_parts.specs.declared.change.GroupChange.TheVariants.{Free, Store}

-- a group after a change that a walk's step makes
abbrev pub changed : GroupChange → Group → Group
changed (changes.Mark child) x = with_mark x child
changed (changes.Join child) x = joined_by x child
changed (changes.Leave child child_on) x = left_by child_on x child
changed (changes.Lock cpu) x = with_lock x (Some cpu)
changed changes.Free x = with_lock x None
changed (changes.Store child event) x = with_event x child event

-- a child of a group is below eight, and an event fits its slot
abbrev pub ChangeFits : GroupChange → Type 0
ChangeFits (changes.Mark child) = child < 8
ChangeFits (changes.Join child) = child < 8
ChangeFits (changes.Leave child child_on) = child < 8
ChangeFits (changes.Lock cpu) = Unit {0}
ChangeFits changes.Free = Unit {0}
ChangeFits (changes.Store child event) = (child < 8) × EventFits event
