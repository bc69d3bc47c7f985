use Rattle.std.proofs.Common.{refl, zero, suc, ℕ, ◌≡◌, ◌<◌, ◌++◌, None, false, arith}
use Rattle.std.specs.Prelude.{unwrap_or}
use Rattle.tm_base.specs.Children.{same_child}
use Rattle.tree_plan.specs.Shape.{levels_from, levels_for, log2up, least_power, node_cpus, rows_at, cut, runs_of, numbered}
use Rattle.tree_plan.specs.Paths.{groups_of, children_of, parent_of, bit_in, bit_of, group_at_of, child_towards}
use Rattle.wheel_core.specs.WheelExpiry.{level_of_delay, wheel_expiry_of, wheel_level_of}
use Rattle.core_world.specs.Covered.{kept_wakeup}
use Rattle.core_world.specs.Start.{start_of}
use Rattle.core_world.specs.World.{World, cpu_of}
use Rattle.orders_rules.specs.declared.rule.Rule.TheVariants as rules
use Rattle.orders_rules.specs.Forgets.{meets, timer_at_three, two_nodes, zero_alone}
use Rattle.orders_rules.specs.Stepping.{after_all_by}
use Rattle.orders_rules.proofs.Asleep.{IsAsleep, none_covers, two_armed, two_at_ten, two_may_arm, two_planned}
use Rattle.orders_rules.proofs.Tests.{each_enabled}
use Rattle.orders_rules.proofs.laws.law_child_first_forgets.Goals as goal

abbrev last : World
last = after_all_by rules.ChildFirst (start_of two_nodes 1) (timer_at_three ++ zero_alone 7 25 ++ meets 7 8)

no_walk : (d : ℕ) → (cpu_of last d).walk ≡ None
unfolding wheel_expiry_of wheel_level_of groups_of levels_from levels_for log2up least_power node_cpus rows_at cut runs_of children_of numbered parent_of same_child bit_in bit_of group_at_of child_towards
no_walk zero = refl
no_walk (suc zero) = refl
no_walk (suc (suc zero)) = refl
no_walk (suc (suc (suc zero))) = refl
no_walk (suc (suc (suc (suc d)))) = refl

outside : (d : ℕ) → (cpu_of last d).inside ≡ false
unfolding wheel_expiry_of wheel_level_of groups_of levels_from levels_for log2up least_power node_cpus rows_at cut runs_of children_of numbered parent_of same_child bit_in bit_of group_at_of child_towards
outside zero = refl
outside (suc zero) = refl
outside (suc (suc zero)) = refl
outside (suc (suc (suc zero))) = refl
outside (suc (suc (suc (suc d)))) = refl

late : (d : ℕ) → 61 < unwrap_or (kept_wakeup (cpu_of last d)) 100
unfolding wheel_expiry_of wheel_level_of groups_of levels_from levels_for log2up least_power node_cpus rows_at cut runs_of children_of numbered parent_of same_child bit_in bit_of group_at_of child_towards
late zero = omega arith
late (suc zero) = omega arith
late (suc (suc zero)) = omega arith
late (suc (suc (suc zero))) = omega arith
late (suc (suc (suc (suc d)))) = omega arith

is_asleep : IsAsleep last
unfolding wheel_expiry_of wheel_level_of groups_of levels_from levels_for log2up least_power node_cpus rows_at cut runs_of children_of numbered parent_of same_child bit_in bit_of group_at_of child_towards
is_asleep = record {
  tree = refl;
  free = no_walk;
  outside = outside;
  late = late;
  leaf_off = refl;
  top_off = refl;
  told_top = refl;
}

pub returns : goal.returns
unfolding wheel_expiry_of wheel_level_of groups_of levels_from levels_for log2up least_power node_cpus rows_at cut runs_of children_of numbered parent_of same_child bit_in bit_of group_at_of child_towards level_of_delay two_at_ten two_armed
returns c = record {
  planned = two_planned;
  enabled = (record { not_back = omega arith; in_time = omega arith }, (two_may_arm, each_enabled rules.ChildFirst two_armed (zero_alone 7 25 ++ meets 7 8) refl));
  item = record { id = 0; expires = 60; wheel = 61; level = 0; job = 0; arg = 0 };
  left = record {
    free = no_walk;
    online = refl;
    idle = refl;
    queued = refl;
    uncovered = none_covers last is_asleep;
  };
}
