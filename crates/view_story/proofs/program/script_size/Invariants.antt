use Rattle.std.proofs.Common.{◌≤◌, length}
use Rattle.view_story.proofs.program.script_size.Given as goal

abbrev pub invariant-loop-line : goal.invariant-loop-line
invariant-loop-line l = length l.rest ≤ length l.fn.bytes

abbrev pub decreases-loop-line : goal.decreases-loop-line
decreases-loop-line l = length l.rest
