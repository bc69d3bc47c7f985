use Rattle.run_rounds.specs.UnderWay.{EndedSoFar}
use Rattle.run_rounds.proofs.threads.end_all.Given as goal

abbrev pub invariant-loop-one : goal.invariant-loop-one
invariant-loop-one g l =
    EndedSoFar g.N.RunName.table g.N.RunName.opening g.J.Jobs.replies l.fn.begun.items
    l.one-iterator.rest.items l.shares.items
