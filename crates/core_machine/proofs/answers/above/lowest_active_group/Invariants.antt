use Rattle.std.proofs.Common.{ℕ, ◌≡◌, ◌<◌, Some, None}
use Rattle.tree_plan.specs.Paths.{group_at_of}
use Rattle.core_world.specs.World.{group_of}
use Rattle.core_machine.proofs.answers.above.lowest_active_group.Given as goal

abbrev pub invariant-loop-level : goal.invariant-loop-level
invariant-loop-level g l =
    (k g : ℕ) → k < l.level → group_at_of l.core.tree l.cpu.0 k ≡ Some g →
    (group_of l.core g).migrator ≡ None
