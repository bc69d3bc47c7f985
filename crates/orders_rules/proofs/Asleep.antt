-- who may answer for CPU 3's timer, on two nodes of two CPUs
use Rattle.std.proofs.Common.{refl, zero, suc, ℕ, ◌≡◌, ◌∙◌, ◌+◌, ◌<◌, ◌∷◌, Some, None, false, length, inl, inr, ap, sym, arith, true≢false}
use Rattle.std.specs.Prelude.{unwrap_or, option_map, option_and_then}
use Rattle.std.proofs.lemmas.Option.{none-some, same_Some}
use Rattle.tm_base.specs.declared.names.Child.{Child}
use Rattle.tm_base.specs.declared.names.Class.TheVariants.{Global}
use Rattle.tm_base.specs.Children.{of_group, same_child}
use Rattle.tree_plan.specs.Shape.{levels_from, levels_for, log2up, least_power, node_cpus, rows_at, cut, runs_of, numbered}
use Rattle.tree_plan.specs.Paths.{groups_of, children_of, parent_of, bit_in, bit_of, group_at_of, child_towards}
use Rattle.wheel_core.specs.WheelExpiry.{wheel_expiry_of, wheel_level_of}
use Rattle.cpu_bases.specs.CpuBases.{class_in}
use Rattle.core_world.specs.walk_rules.Edges.{StandsBelow, edge_of}
use Rattle.core_world.specs.walk_rules.Hierarchy.{side}
use Rattle.core_world.specs.walk_rules.Queues.{IsCarried, will_tell_by, tells_by}
use Rattle.core_world.specs.walk_rules.Stages.{forget}
use Rattle.core_world.specs.coverage.Coverage.{Told, Leads, Woken}
use Rattle.core_world.specs.coverage.Coverage as chains
use Rattle.core_world.specs.Covered.{Carried, Covered, LeadsTo, kept_wakeup, machine_of}
use Rattle.core_world.specs.Covered as ways
use Rattle.core_world.specs.IdleTop as tops
use Rattle.core_world.specs.Enabled.{MayArm}
use Rattle.core_world.specs.Start.{start_of}
use Rattle.core_world.specs.Steps.{stepped}
use Rattle.core_world.specs.World.{World, cpu_of, group_of, scene_of}
use Rattle.core_world.specs.declared.step.Step.TheVariants as steps
use Rattle.std.proofs.Common.{List, [], cond}
use Rattle.std.specs.Prelude.{filter, map, not}
use Rattle.std.specs.List.{range_with_len}
use Rattle.std.specs.FinSet.{contains, contains-empty, empty}
use Rattle.std.specs.Ordering.{nat_cmp}
use Rattle.tm_base.specs.Children.{of_cpu}
use Rattle.tree_plan.specs.Shape.{tree_of}
use Rattle.coverage.specs.Coverage.{WakesBy}
use Rattle.orders_rules.specs.Forgets.{two_nodes}

all_placed : (xs : List ℕ) → filter (λ c. not (contains (empty {R = nat_cmp}) c)) xs ≡ xs
all_placed [] = refl
all_placed (x ∷ xs) = λ i. cond (not (contains-empty nat_cmp x i)) (x ∷ all_placed xs i) (all_placed xs i)

rows_are : node_cpus 2 2 empty ≡ map of_cpu (range_with_len 0 2) ∷ map of_cpu (range_with_len 2 2) ∷ []
unfolding node_cpus
rows_are = λ i. map of_cpu (all_placed (range_with_len 0 2) i) ∷ map of_cpu (all_placed (range_with_len 2 2) i) ∷ []

pub two_planned : tree_of 2 2 empty ≡ two_nodes
two_planned = λ i. record {
  nodes = 2;
  cpus = 2;
  isolated = empty;
  levels = levels_from (levels_for 2) (levels_for 2 + levels_for 2) 0 0 (rows_are i);
}

unfoldable pub two_at_ten : World
two_at_ten = stepped (start_of two_nodes 1) (steps.Clock 10)

unfoldable pub two_armed : World
two_armed = stepped two_at_ten (steps.Arm (record { 0 = 3 }) (record { 0 = 0 }) Global 60 0 0 0)

nowhere : (d : ℕ) → class_in 0 (cpu_of two_at_ten d).bases ≡ None
unfolding wheel_expiry_of wheel_level_of groups_of levels_from levels_for log2up least_power node_cpus rows_at cut runs_of children_of numbered parent_of same_child bit_in bit_of group_at_of child_towards two_at_ten
nowhere zero = refl
nowhere (suc zero) = refl
nowhere (suc (suc zero)) = refl
nowhere (suc (suc (suc zero))) = refl
nowhere (suc (suc (suc (suc d)))) = refl

pub two_may_arm : MayArm two_at_ten 3 0 Global 60
unfolding wheel_expiry_of wheel_level_of groups_of levels_from levels_for log2up least_power node_cpus rows_at cut runs_of children_of numbered parent_of same_child bit_in bit_of group_at_of child_towards two_at_ten
two_may_arm =
    let four : length two_at_ten.cpus ≡ 4 = refl in
    record {
      is_free = record { in_range = omega (arith, four); free = refl };
      online = refl;
      may_run = inl refl;
      known = omega arith;
      not_queued = nowhere;
      to_come = omega arith;
      in_time = omega arith;
      none_behind = λ x e. absurd (none-some x e);
    }

-- all walks are over, CPU 3's leaf and the top sleep, and nobody wakes
pub record IsAsleep (w : World) : Type 0 where
  pub tree : w.tree ≡ two_nodes
  pub free : (d : ℕ) → (cpu_of w d).walk ≡ None
  pub outside : (d : ℕ) → (cpu_of w d).inside ≡ false
  pub late : (d : ℕ) → 61 < unwrap_or (kept_wakeup (cpu_of w d)) 100
  pub leaf_off : (group_of w 1).migrator ≡ None
  pub top_off : (group_of w 2).migrator ≡ None
  pub told_top : (machine_of w).event 2 1 ≡ Some 61

leaf_is : group_at_of two_nodes 3 0 ≡ Some 1
unfolding wheel_expiry_of wheel_level_of groups_of levels_from levels_for log2up least_power node_cpus rows_at cut runs_of children_of numbered parent_of same_child bit_in bit_of group_at_of child_towards
leaf_is = refl

parent_is : group_at_of two_nodes 3 1 ≡ Some 2
unfolding wheel_expiry_of wheel_level_of groups_of levels_from levels_for log2up least_power node_cpus rows_at cut runs_of children_of numbered parent_of same_child bit_in bit_of group_at_of child_towards
parent_is = refl

no_more : (l : ℕ) → group_at_of two_nodes 3 (suc (suc l)) ≡ None
unfolding wheel_expiry_of wheel_level_of groups_of levels_from levels_for log2up least_power node_cpus rows_at cut runs_of children_of numbered parent_of same_child bit_in bit_of group_at_of child_towards
no_more zero = refl
no_more (suc l) = ap (λ m. option_and_then (λ g. parent_of two_nodes (of_group g)) m) (no_more l)

bit_is : side two_nodes 3 1 ≡ 1
unfolding wheel_expiry_of wheel_level_of groups_of levels_from levels_for log2up least_power node_cpus rows_at cut runs_of children_of numbered parent_of same_child bit_in bit_of group_at_of child_towards
bit_is = refl

module _ (w : World) (lost : IsAsleep w) where
  -- each group of CPU 3's path sleeps
  sleeps : (level g : ℕ) → group_at_of w.tree 3 level ≡ Some g → (group_of w g).migrator ≡ None
  sleeps zero g at = sym (ap (λ h. (group_of w h).migrator) (same_Some 1 g (sym leaf_is ∙ (ap (λ t. group_at_of t 3 0) (sym lost.tree) ∙ at)))) ∙ lost.leaf_off
  sleeps (suc zero) g at = sym (ap (λ h. (group_of w h).migrator) (same_Some 2 g (sym parent_is ∙ (ap (λ t. group_at_of t 3 1) (sym lost.tree) ∙ at)))) ∙ lost.top_off
  sleeps (suc (suc l)) g at = absurd (none-some g (sym (no_more l) ∙ (ap (λ t. group_at_of t 3 (suc (suc l))) (sym lost.tree) ∙ at)))

  no_leads : (m g : ℕ) → (group_of w g).migrator ≡ None → Leads (machine_of w) m g → ⊥
  no_leads m g off (chains.to_cpu _ k by child on) = none-some k (sym off ∙ by)
  no_leads m g off (chains.to_group _ k h by child leads) = none-some k (sym off ∙ by)

  no_leads_to : (z : Child) (g : ℕ) → (group_of w g).migrator ≡ None → LeadsTo w z g → ⊥
  no_leads_to z g off (ways.there _ k by child) = none-some k (sym off ∙ by)
  no_leads_to z g off (ways.further _ k h by child leads) = none-some k (sym off ∙ by)

  none_stands : (x : ℕ) → StandsBelow w.tree (scene_of w) x → ⊥
  none_stands x (d, e) = none-some x (sym (ap (λ m. option_and_then (group_at_of w.tree d) (edge_of (option_map forget m))) (lost.free d)) ∙ e)

  none_carries : (x : ℕ) → IsCarried w.tree (scene_of w) x → ⊥
  none_carries x (d, inl e) = none-some x (sym (ap (λ m. will_tell_by w.tree d (option_map forget m)) (lost.free d)) ∙ e)
  none_carries x (d, inr e) = none-some x (sym (ap (λ m. tells_by w.tree d (option_map forget m)) (lost.free d)) ∙ e)

  not_under_way : (child time : ℕ) (by : tops.Answered w child time) → ways.IsUnderWay w child time by → ⊥
  not_under_way child time (tops.by_activation d k group is kind) under = none-some k (sym (lost.free d) ∙ is)
  not_under_way child time (tops.by_wakeup d group keeps soon) under = under
  not_under_way child time (tops.by_interrupt d group online idle inside goes_on) under = true≢false (sym inside ∙ lost.outside d)
  not_under_way child time (tops.by_climbing d k climbs over) under = none-some k (sym (lost.free d) ∙ climbs.walk)
  not_under_way child time (tops.by_reading d k climbs top off yet) under = none-some k (sym (lost.free d) ∙ climbs.walk)
  not_under_way child time (tops.by_first d k climbs soon) under = none-some k (sym (lost.free d) ∙ climbs.walk)

  not_carried : Carried w 3 61 → ⊥
  not_carried (ways.by_walk k is other) = none-some k (sym (lost.free 3) ∙ is)
  not_carried (ways.by_interrupt inside) = true≢false (sym inside ∙ lost.outside 3)
  not_carried (ways.on_the_way level x told path off low (inl by)) = none_stands x by
  not_carried (ways.on_the_way level x told path off low (inr by)) = none_carries x by
  not_carried (ways.by_role level g z told path leads off by) = no_leads_to z g (sleeps level g path) leads
  not_carried (ways.at_idle_top level top e told path is_top off event by under_way) = not_under_way _ _ by under_way

  wakes_late : (d at : ℕ) → kept_wakeup (cpu_of w d) ≡ Some at → 61 < at
  wakes_late d at keeps =
      let e = ap (λ m. unwrap_or m 100) keeps in
      let late = lost.late d in
      omega (arith, e, late)

  no_top : (level top expiry : ℕ) → group_at_of w.tree 3 level ≡ Some top → group_at_of w.tree 3 (suc level) ≡ None → (machine_of w).event top (side w.tree 3 level) ≡ Some expiry → WakesBy (machine_of w) expiry → ⊥
  no_top zero top expiry at none event wakes = none-some 2 (sym none ∙ (ap (λ t. group_at_of t 3 1) lost.tree ∙ parent_is))
  no_top (suc zero) top expiry at none event wakes =
      let is = same_Some 2 top (sym parent_is ∙ (ap (λ t. group_at_of t 3 1) (sym lost.tree) ∙ at)) in
      let bit = ap (λ t. side t 3 1) lost.tree ∙ bit_is in
      let same = same_Some expiry 61 (sym event ∙ (ap (λ b. (machine_of w).event top b) bit ∙ (ap (λ g. (machine_of w).event g 1) (sym is) ∙ lost.told_top))) in
      let late = wakes_late wakes.waker wakes.at wakes.keeps in
      let soon = wakes.in_time in
      absurd (omega (arith, same, late, soon))
  no_top (suc (suc l)) top expiry at none event wakes = none-some top (sym (no_more l) ∙ (ap (λ t. group_at_of t 3 (suc (suc l))) (sym lost.tree) ∙ at))

  pub none_covers : Covered w 3 61 → ⊥
  none_covers (inl held) = no_leads held.runner held.in_group (sleeps held.level held.in_group held.on_path) held.leads
  none_covers (inr (inl (inl itself))) =
      let late = wakes_late 3 itself.at itself.keeps in
      let soon = itself.in_time in
      absurd (omega (arith, late, soon))
  none_covers (inr (inl (inr top))) =
      no_top top.level top.top top.expiry top.on_path
      (ap (λ n. group_at_of w.tree 3 n) (let e : suc top.level ≡ top.level + 1 = omega arith in e) ∙ top.is_top)
      top.event top.wakes
  none_covers (inr (inr carried)) = not_carried carried
