use Rattle.run_rounds.specs.UnderWay.{BegunSoFar}
use Rattle.run_rounds.proofs.threads.begin_all.Given as goal

abbrev pub invariant-loop-task : goal.invariant-loop-task
invariant-loop-task g l =
    BegunSoFar g.N.RunName.table g.N.RunName.opening g.J.Jobs.replies (g.J.Jobs.replies l.jobs)
    l.fn.tasks.items l.task-iterator.rest.items l.begun.items
