use Rattle.std.proofs.Common.{refl, zero, suc, ℕ, ◌≡◌, ◌++◌, ◌∷◌, None, arith}
use Rattle.tm_base.specs.Children.{same_child}
use Rattle.tree_plan.specs.Shape.{levels_from, levels_for, log2up, least_power, node_cpus, rows_at, cut, runs_of, numbered}
use Rattle.tree_plan.specs.Paths.{groups_of, children_of, parent_of, bit_in, bit_of, group_at_of, child_towards}
use Rattle.wheel_core.specs.WheelExpiry.{level_of_delay, wheel_expiry_of, wheel_level_of}
use Rattle.core_world.specs.Start.{start_of}
use Rattle.core_world.specs.World.{World, cpu_of}
use Rattle.core_world.specs.declared.step.Step.TheVariants as steps
use Rattle.core_facts.specs.Worked.Rows.{one_node_of, walks}
use Rattle.orders_rules.specs.declared.rule.Rule.TheVariants as rules
use Rattle.orders_rules.specs.Forgets.{linux_steps}
use Rattle.orders_rules.specs.Stepping.{after_all_by}
use Rattle.orders_rules.proofs.Nobody.{IsLost, at_ten, armed_at_ten, may_arm, not_covered}
use Rattle.orders_rules.proofs.Tests.{each_enabled}
use Rattle.orders_rules.proofs.laws.law_linux_forgets.Goals as goal

abbrev last : World
last = after_all_by rules.Linux (start_of (one_node_of 10) 1) linux_steps

no_walk : (d : ℕ) → (cpu_of last d).walk ≡ None
unfolding wheel_expiry_of wheel_level_of groups_of levels_from levels_for log2up least_power node_cpus rows_at cut runs_of children_of numbered parent_of same_child bit_in bit_of group_at_of child_towards
no_walk zero = refl
no_walk (suc zero) = refl
no_walk (suc (suc zero)) = refl
no_walk (suc (suc (suc zero))) = refl
no_walk (suc (suc (suc (suc zero)))) = refl
no_walk (suc (suc (suc (suc (suc zero))))) = refl
no_walk (suc (suc (suc (suc (suc (suc zero)))))) = refl
no_walk (suc (suc (suc (suc (suc (suc (suc zero))))))) = refl
no_walk (suc (suc (suc (suc (suc (suc (suc (suc zero)))))))) = refl
no_walk (suc (suc (suc (suc (suc (suc (suc (suc (suc zero))))))))) = refl
no_walk (suc (suc (suc (suc (suc (suc (suc (suc (suc (suc d)))))))))) = refl

is_lost : IsLost last
unfolding wheel_expiry_of wheel_level_of groups_of levels_from levels_for log2up least_power node_cpus rows_at cut runs_of children_of numbered parent_of same_child bit_in bit_of group_at_of child_towards
is_lost = record {
  tree = refl;
  free = no_walk;
  top_empty = refl;
  leaf_off = refl;
  outside = refl;
  late = omega arith;
}

pub returns : goal.returns
unfolding wheel_expiry_of wheel_level_of groups_of levels_from levels_for log2up least_power node_cpus rows_at cut runs_of children_of numbered parent_of same_child bit_in bit_of group_at_of child_towards level_of_delay at_ten armed_at_ten
returns c = record {
  planned = c.row_stale_run.ensures.run.tree;
  enabled = (record { not_back = omega arith; in_time = omega arith }, (may_arm, each_enabled rules.Linux armed_at_ten (steps.Idle (record { 0 = 9 }) ∷ walks 3 9 ++ steps.Idle (record { 0 = 8 }) ∷ walks 26 8 ++ walks 5 9) refl));
  item = record { id = 0; expires = 60; wheel = 61; level = 0; job = 0; arg = 0 };
  left = record {
    free = no_walk;
    online = refl;
    idle = refl;
    queued = refl;
    uncovered = not_covered last is_lost;
  };
}
