use Rattle.std.proofs.Common.{ℕ, ◌<◌}
use Rattle.core_world.specs.World.{cpu_of}
use Rattle.shared_table.specs.Readied.{HasNoneBehind}
use Rattle.shared_rows.proofs.behind.no_base_behind.Given as goal

abbrev pub invariant-loop-cpu : goal.invariant-loop-cpu
invariant-loop-cpu l = (d : ℕ) → d < l.cpu → HasNoneBehind (cpu_of l.fn.core d).bases
