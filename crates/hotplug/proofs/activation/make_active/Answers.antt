use Rattle.hotplug.proofs.Activating.{active_woken}
use Rattle.hotplug.proofs.activation.make_active.Goals as goal

pub returns-clause-active : goal.returns-clause-active
returns-clause-active g c =
    active_woken c.args.core.now c.args.cpu.0 c.requires c.wake.new.core c.wake.ensures.walked
    c.tree.ensures.lawful c.wake.ensures.ends
