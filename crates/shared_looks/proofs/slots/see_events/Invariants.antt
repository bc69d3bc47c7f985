use Rattle.shared_cpus.specs.shared_rule.Passes.{IsOfRun}
use Rattle.shared_looks.specs.Sights.{HasSeenSlots}
use Rattle.shared_looks.proofs.slots.see_events.Given as goal

abbrev pub invariant-loop-child : goal.invariant-loop-child
invariant-loop-child g l =
    HasSeenSlots g.N.RunName.table g.N.RunName.opening l.group.0 l.child l.fn.pass l.pass l.events
    × IsOfRun g.N.RunName.table l.pass
