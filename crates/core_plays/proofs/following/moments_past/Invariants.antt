use Rattle.std.proofs.Common.{◌≡◌, length}
use Rattle.core_plays.specs.Following.{moments_past}
use Rattle.core_plays.proofs.following.moments_past.Given as goal

abbrev pub invariant-loop-left : goal.invariant-loop-left
invariant-loop-left l = moments_past l.fn.now l.left ≡ moments_past l.fn.now l.fn.moments

abbrev pub decreases-loop-left : goal.decreases-loop-left
decreases-loop-left l = length l.left
