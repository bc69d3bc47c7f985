use Rattle.remote_expiry.proofs.Levels.{RoundsSoFar}
use Rattle.remote_expiry.proofs.looking.look_at.Given as goal

abbrev pub invariant-loop-turn : goal.invariant-loop-turn
invariant-loop-turn g l =
    RoundsSoFar g.N.RunName.table g.N.RunName.opening (g.J.Jobs.replies l.jobs) l._turn l.tried
    l.fn.pass l.pass l.fn.runs.runs l.runs.runs
