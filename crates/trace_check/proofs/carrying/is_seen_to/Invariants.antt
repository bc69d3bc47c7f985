use Rattle.std.proofs.Common.{ℕ, ◌<◌}
use Rattle.trace_check.specs.Told.{SeesToBelow}
use Rattle.trace_check.proofs.carrying.is_seen_to.Given as goal

abbrev pub invariant-loop-other : goal.invariant-loop-other
invariant-loop-other g l = (d : ℕ) → d < l.other → SeesToBelow l.core d l.cpu.0 l.level → ⊥
