use Rattle.core_machine.proofs.Views.Where.{holder_is}
use Rattle.core_machine.proofs.readings.timers.holder.Goals as goal

pub returns-clause-holder : goal.returns-clause-holder
returns-clause-holder g c =
    holder_is c.args.core.now c.args.timer.0 c.tree.ensures.lawful c.queued_on.result
    c.queued_on.ensures.there c.queued_on.ensures.in_range c.queued_on.ensures.nowhere
