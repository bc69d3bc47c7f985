use Rattle.shared_looks.specs.Looks.{IsPassBegunWith}
use Rattle.shared_calls.specs.Cancels.{LooksOn}
use Rattle.shared_calls.proofs.cancelling.cancel_named.Given as goal

abbrev pub invariant-loop : goal.invariant-loop
invariant-loop g l =
    LooksOn g.N.RunName.opening l.timer.0 l.fn.pass l.pass
    × IsPassBegunWith g.N.RunName.table g.N.RunName.opening l.pass
