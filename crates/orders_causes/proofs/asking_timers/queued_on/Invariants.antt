use Rattle.std.proofs.Common.{◌≡◌, ℕ, ◌<◌, None}
use Rattle.cpu_bases.specs.CpuBases.{class_in}
use Rattle.core_world.specs.World.{cpu_of}
use Rattle.orders_causes.proofs.asking_timers.queued_on.Given as goal

abbrev pub invariant-loop-cpu : goal.invariant-loop-cpu
invariant-loop-cpu l = (d : ℕ) → d < l.cpu → class_in l.timer.0 (cpu_of l.world d).bases ≡ None
