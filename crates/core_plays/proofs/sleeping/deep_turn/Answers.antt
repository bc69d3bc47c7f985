use Rattle.play_driver.proofs.Scripts.{due_in_range}
use Rattle.core_plays.proofs.sleeping.deep_turn.Goals as goal

pub moment-requires-clause-in_range : goal.moment-requires-clause-in_range
moment-requires-clause-in_range g c =
    rw (c.set_clock.ensures.cpus, c.set_clock.ensures.timers)
    (due_in_range _ _ _ _ c.moment_due.ensures c.requires.in_range)
