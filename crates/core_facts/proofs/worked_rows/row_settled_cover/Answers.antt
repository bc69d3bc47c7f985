use Rattle.std.proofs.Common.{refl, zero, suc, ℕ, ◌≡◌, length, arith, inl, None, ◌∷◌}
use Rattle.tm_base.specs.declared.names.Class.TheVariants.{Global}
use Rattle.tree_plan.specs.Shape.{levels_from, levels_for, log2up, least_power, node_cpus, rows_at, cut, runs_of, numbered}
use Rattle.tm_base.specs.Children.{same_child}
use Rattle.tree_plan.specs.Paths.{groups_of, children_of, parent_of, bit_in, bit_of, group_at_of, child_towards}
use Rattle.core_world.specs.Enabled.{MayArm}
use Rattle.core_world.specs.Steps.{stepped}
use Rattle.core_world.specs.World.{World, cpu_of}
use Rattle.core_world.specs.declared.step.Step.TheVariants as steps
use Rattle.cpu_bases.specs.CpuBases.{class_in}
use Rattle.std.proofs.lemmas.Option.{none-some}
use Rattle.wheel_core.specs.WheelExpiry.{wheel_expiry_of, wheel_level_of}
use Rattle.core_facts.specs.Worked.Rows.{cover_start, walks}
use Rattle.core_facts.proofs.Worked.Tests.{each_enabled}
use Rattle.core_facts.proofs.Worked.Trees.{tree_is}
use Rattle.core_facts.proofs.worked_rows.row_settled_cover.Goals as goal

at_ten : World
at_ten = stepped cover_start (steps.Clock 10)

armed_at_ten : World
armed_at_ten = stepped at_ten (steps.Arm (record { 0 = 1 }) (record { 0 = 0 }) Global 60 0 0 0)

nowhere : (d : ℕ) → class_in 0 (cpu_of at_ten d).bases ≡ None
unfolding wheel_expiry_of wheel_level_of groups_of levels_from levels_for log2up least_power node_cpus rows_at cut runs_of children_of numbered parent_of same_child bit_in bit_of group_at_of child_towards at_ten
nowhere zero = refl
nowhere (suc zero) = refl
nowhere (suc (suc d)) = refl

may_arm : MayArm at_ten 1 0 Global 60
unfolding wheel_expiry_of wheel_level_of groups_of levels_from levels_for log2up least_power node_cpus rows_at cut runs_of children_of numbered parent_of same_child bit_in bit_of group_at_of child_towards at_ten
may_arm =
    let two : length at_ten.cpus ≡ 2 = refl in
    record {
      is_free = record { in_range = omega (arith, two); free = refl };
      online = refl;
      may_run = inl refl;
      known = omega arith;
      not_queued = nowhere;
      to_come = omega arith;
      in_time = omega arith;
      none_behind = λ x e. absurd (none-some x e);
    }

pub returns : goal.returns
unfolding wheel_expiry_of wheel_level_of groups_of levels_from levels_for log2up least_power node_cpus rows_at cut runs_of children_of numbered parent_of same_child bit_in bit_of group_at_of child_towards at_ten armed_at_ten
returns c = record {
  tree = tree_is 2;
  enabled = (record { not_back = omega arith; in_time = omega arith }, (may_arm, each_enabled armed_at_ten (steps.Idle (record { 0 = 1 }) ∷ walks 8 1) refl));
  first_done = refl;
  second_done = refl;
  migrator = refl;
  told = refl;
  wakeup = refl;
}
