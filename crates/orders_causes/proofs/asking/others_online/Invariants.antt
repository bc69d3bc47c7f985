use Rattle.std.proofs.Common.{◌<◌, ℕ}
use Rattle.orders_world.specs.Asking.{IsOtherOnline}
use Rattle.orders_causes.proofs.asking.others_online.Given as goal

abbrev pub invariant-loop-other : goal.invariant-loop-other
invariant-loop-other l = (d : ℕ) → d < l.other → IsOtherOnline l.world l.cpu.0 d → ⊥
