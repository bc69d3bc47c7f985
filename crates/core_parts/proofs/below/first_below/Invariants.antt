use Rattle.std.proofs.Common.{◌≤◌}
use Rattle.core_parts.proofs.below.first_below.Given as goal

abbrev pub invariant-loop-first : goal.invariant-loop-first
invariant-loop-first l = l.first ≤ l.fn.cpu.0

abbrev pub decreases-loop-first : goal.decreases-loop-first
decreases-loop-first l = l.first
