use Rattle.std.proofs.Common.{[], ◌∷◌}
use Rattle.core_machine.proofs.step_play.Reached.{onwards}
use Rattle.hotplug.proofs.offline.hand_on.Goals as goal

pub returns-clause-run : goal.returns-clause-run
returns-clause-run g c =
    onwards c.args.core.now c.make_active.new.core c.make.new.core c.make_active.ensures.run
    (_ ∷ [], c.make.ensures.run)
