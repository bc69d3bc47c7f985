use Rattle.run_shares.specs.Progress.{TasksSoFar}
use Rattle.run_shares.proofs.tasks.first_tasks.Given as goal

abbrev pub invariant-loop-pass : goal.invariant-loop-pass
invariant-loop-pass l =
    TasksSoFar l.due l.fn.passes.items l.pass-iterator.rest.items l.tasks.items
