-- the law that a world begins lawful, with the tree of every plan
use Rattle.std.specs.Prelude.{ℕ, ◌≤◌, ◌^◌}
use Rattle.tm_base.specs.CpuSet.{Cpus}
use Rattle.tree_plan.specs.Shape.{IsWithinLimits, tree_of}
use Rattle.core_world.specs.Lawful.{IsLawful}
use Rattle.core_world.specs.Start.{start_of}

-- THE LAW
abbrev pub StartsLawful : Type 0
StartsLawful = (nodes cpus timers : ℕ) (isolated : Cpus) → IsWithinLimits nodes cpus isolated →
    timers ≤ 2 ^ 16 → IsLawful (start_of (tree_of nodes cpus isolated) timers)
