use Rattle.std.proofs.Common.{◌≡◌}
use Rattle.std.specs.Prelude.{map}
use Rattle.std.specs.List.{range_with_len}
use Rattle.tree_plan.specs.Paths.{child_count_of}
use Rattle.core_world.specs.Start.{start_group}
use Rattle.plain_world.proofs.start.new_groups.Given as goal

abbrev pub invariant-loop-group : goal.invariant-loop-group
invariant-loop-group l =
    l.groups.items ≡ map (λ g. start_group (child_count_of l.tree g)) (range_with_len 0 l.group)
