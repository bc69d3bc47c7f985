use Rattle.hotplug.proofs.Heirs.{heir_empty, heir_full}
use Rattle.hotplug.proofs.dead.heir_of.Goals as goal

pub returns-in_default : goal.returns-in_default
returns-in_default g c =
    heir_empty c.args.core.now c.args.dead.0 c.requires c.in_default.ensures

pub returns : goal.returns
returns g c =
    heir_full c.args.core.now c.args.dead.0 c.requires c.in-Some._timer c.in-Some.ensures
    c.controller.result c.controller.ensures.controller
