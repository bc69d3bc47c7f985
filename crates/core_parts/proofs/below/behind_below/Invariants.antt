use Rattle.std.proofs.Common.{◌-◌, ◌<◌, ◌≤◌}
use Rattle.core_parts.proofs.below.behind_below.Given as goal

abbrev pub invariant-loop-behind : goal.invariant-loop-behind
invariant-loop-behind l = record { above : l.fn.cpu.0 < l.behind; within : l.behind ≤ l.count }

abbrev pub decreases-loop-behind : goal.decreases-loop-behind
decreases-loop-behind l = l.count - l.behind
