use Rattle.std.proofs.Common.{ℕ, ◌<◌}
use Rattle.core_world.specs.World.{cpu_of}
use Rattle.hotplug.specs.Settled.{AreBasesWhole}
use Rattle.hotplug.proofs.whole.is_whole.Given as goal

abbrev pub invariant-loop-cpu : goal.invariant-loop-cpu
invariant-loop-cpu g l = (d : ℕ) → d < l.cpu → AreBasesWhole (cpu_of l.core d).bases
