use Rattle.std.proofs.Common.{◌≡◌, length}
use Rattle.deep_idle.specs.Device.{device_settled}
use Rattle.deep_idle.proofs.settling.settle.Given as goal

abbrev pub invariant-loop-cpu : goal.invariant-loop-cpu
invariant-loop-cpu g l =
    (l.device ≡ device_settled (g.W.Wakeups.wakeups l.machine) l.cpu l.fn.device)
    × (length l.device.sleepers ≡ length l.fn.device.sleepers)
