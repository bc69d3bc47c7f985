use Rattle.std.proofs.Common.{subst}
use Rattle.deep_idle.specs.Device.{DeviceLaw}
use Rattle.deep_idle.proofs.Kept.{law_kept}
use Rattle.deep_idle.proofs.device.Device.time.Goals as goal

pub returns-clause-law : goal.returns-clause-law
returns-clause-law c = subst DeviceLaw c.self.view_is (law_kept _ _ _ _ c.self.invariant)
