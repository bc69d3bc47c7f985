-- changes of a group that any group can follow (no public clause cites it)
use Rattle.std.specs.Prelude.{◌<◌}
use Rattle.core_parts.specs.declared.change.GroupChange.{GroupChange}
use Rattle.core_parts.specs.declared.change.GroupChange.TheVariants as changes

-- a change is of a child that a group can have
abbrev pub IsChildOf : GroupChange → Type 0
IsChildOf (changes.Mark child) = child < 8
IsChildOf (changes.Join child) = child < 8
IsChildOf (changes.Leave child child_on) = child < 8
IsChildOf (changes.Lock cpu) = Unit {0}
IsChildOf changes.Free = Unit {0}
IsChildOf (changes.Store child event) = child < 8
