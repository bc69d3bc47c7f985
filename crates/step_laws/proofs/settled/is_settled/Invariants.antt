use Rattle.std.proofs.Common.{ℕ, ◌<◌}
use Rattle.step_laws.proofs.Settling.{RestsAt}
use Rattle.step_laws.proofs.settled.is_settled.Given as goal

abbrev pub invariant-loop-cpu : goal.invariant-loop-cpu
invariant-loop-cpu g l = (d : ℕ) → d < l.cpu → RestsAt l.core d
