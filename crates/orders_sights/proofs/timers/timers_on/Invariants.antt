use Rattle.orders_sights.specs.Gathering.{Gathered}
use Rattle.orders_sights.specs.Seeing.{IsSeenTimer, PassesTimer}
use Rattle.orders_sights.proofs.timers.timers_on.Given as goal

abbrev pub invariant-loop-timer : goal.invariant-loop-timer
invariant-loop-timer l =
    Gathered (PassesTimer l.world l.cpu.0) (IsSeenTimer l.world l.cpu.0) l.timer l.list.items
