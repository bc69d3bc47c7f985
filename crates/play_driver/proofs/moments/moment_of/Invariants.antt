use Rattle.std.proofs.Common.{◌≡◌, length}
use Rattle.play_driver.specs.Outcomes.{moment_of}
use Rattle.play_driver.proofs.moments.moment_of.Given as goal

abbrev pub invariant-loop-left : goal.invariant-loop-left
invariant-loop-left l = moment_of l.fn.at l.left ≡ moment_of l.fn.at l.fn.moments

abbrev pub decreases-loop-left : goal.decreases-loop-left
decreases-loop-left l = length l.left
