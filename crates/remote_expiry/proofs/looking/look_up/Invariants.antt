use Rattle.remote_expiry.proofs.Levels.{LevelsSoFar}
use Rattle.remote_expiry.proofs.looking.look_up.Given as goal

abbrev pub invariant-loop-level : goal.invariant-loop-level
invariant-loop-level g l =
    LevelsSoFar g.N.RunName.table g.N.RunName.opening (g.J.Jobs.replies l.jobs) l.level l.fn.pass
    l.pass l.fn.runs.runs l.runs.runs
