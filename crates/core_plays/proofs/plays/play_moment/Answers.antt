use Rattle.core_plays.proofs.Playable.{playable}
use Rattle.core_plays.proofs.plays.play_moment.Goals as goal

pub moment_by_itself-requires-clause-playable : goal.moment_by_itself-requires-clause-playable
moment_by_itself-requires-clause-playable g c =
    rw c.requires.machine.timers
    (playable c.args.script.now c.requires.script _ c.requires.machine.cpus)
