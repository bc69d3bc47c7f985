use Rattle.wheel_core.proofs.Leasts.{least_bounds}
use Rattle.wheel_base.specs.Files.{items_of}
use Rattle.wheel_base.proofs.wheel.WheelBaseTimerBase.first.Goals as goal

pub returns-clause-bounds : goal.returns-clause-bounds
returns-clause-bounds c =
    rw (← c.self.view_is)
    (least_bounds (items_of c.self.inside.store.filed) c.self.inside.first c.self.invariant.known)
