use Rattle.core_machine.proofs.Views.Controlling.{control_in_range, control_online}
use Rattle.core_machine.proofs.readings.machine.controller.Goals as goal

pub returns-clause-in_range : goal.returns-clause-in_range
returns-clause-in_range g c =
    control_in_range c.args.core.now c.first_to_control.result c.first_to_control.ensures

pub returns-clause-online : goal.returns-clause-online
returns-clause-online g c =
    control_online c.args.core.now c.first_to_control.result c.first_to_control.ensures
