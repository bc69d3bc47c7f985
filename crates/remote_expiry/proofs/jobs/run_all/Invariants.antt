use Rattle.std.proofs.Common.{◌≡◌, take}
use Rattle.remote_expiry.proofs.JobLoop.{RunsSoFar}
use Rattle.remote_expiry.proofs.jobs.run_all.Given as goal

abbrev pub invariant-loop-item : goal.invariant-loop-item
invariant-loop-item g l = record {
  so_far : RunsSoFar g.N.RunName.table g.N.RunName.opening (g.J.Jobs.replies l.jobs) l.home.0
      (take l.item-index l.items) l.fn.pass l.pass l.fn.runs.runs l.runs.runs l.ended;
  capacity : l.runs.capacity ≡ l.fn.runs.capacity;
}
