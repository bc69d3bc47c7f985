use Rattle.std.proofs.Common.{◌-◌}
use Rattle.tm_base.specs.declared.limits.TheConstants.{WORK_LIMIT_V1}
use Rattle.delayed_work.specs.Play.{works_played}
use Rattle.delayed_work.specs.Playable.{StandsToPlay}
use Rattle.delayed_work.proofs.play.all_moments.Given as goal

abbrev pub invariant-loop-count : goal.invariant-loop-count
invariant-loop-count g l =
    StandsToPlay (g.J.Jobs.replies l.jobs) l.script.end l.script.count (record { now = l.now; moments = l.moments; count = l.count; playing = l.player })
    (works_played (g.J.Jobs.replies l.jobs) l.script)

abbrev pub decreases-loop-count : goal.decreases-loop-count
decreases-loop-count g l = WORK_LIMIT_V1 - l.count
