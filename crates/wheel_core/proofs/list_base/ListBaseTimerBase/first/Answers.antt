use Rattle.wheel_core.proofs.Leasts.{least_bounds}
use Rattle.wheel_core.proofs.list_base.ListBaseTimerBase.first.Goals as goal

pub returns-clause-bounds : goal.returns-clause-bounds
returns-clause-bounds c =
    rw (← c.self.view_is)
    (least_bounds c.self.inside.items.items c.self.inside.first c.self.invariant.known)
