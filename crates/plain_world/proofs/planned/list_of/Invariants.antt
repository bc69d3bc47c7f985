use Rattle.std.proofs.Common.{◌≡◌, ℕ}
use Rattle.std.specs.Prelude.{◌&&◌, nat_lt}
use Rattle.std.specs.FinSet.{contains}
use Rattle.plain_world.specs.Planned.{lists}
use Rattle.plain_world.proofs.planned.list_of.Given as goal

abbrev pub invariant-loop-cpu : goal.invariant-loop-cpu
invariant-loop-cpu l = (c : ℕ) → lists l.list.items c ≡ (nat_lt c l.cpu && contains l.set c)
