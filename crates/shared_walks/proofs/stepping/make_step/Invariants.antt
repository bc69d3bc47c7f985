use Rattle.shared_walks.proofs.Retrying.{HasTried}
use Rattle.shared_walks.proofs.stepping.make_step.Given as goal

abbrev pub invariant-loop : goal.invariant-loop
invariant-loop g l = HasTried l.fn.part l.part
