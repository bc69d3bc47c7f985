-- who may answer for CPU 9's timer, on ten CPUs
use Rattle.std.proofs.Common.{refl, zero, suc, ℕ, ◌≡◌, ◌∙◌, ◌+◌, ◌<◌, Some, None, false, length, inl, inr, ap, sym, arith, true≢false}
use Rattle.std.specs.Prelude.{unwrap_or, option_map, option_and_then}
use Rattle.std.proofs.lemmas.Option.{none-some, same_Some}
use Rattle.tm_base.specs.declared.names.Child.{Child}
use Rattle.tm_base.specs.declared.names.Class.TheVariants.{Global}
use Rattle.tm_base.specs.Children.{same_child}
use Rattle.tree_plan.specs.Shape.{Shape, levels_from, levels_for, log2up, least_power, node_cpus, rows_at, cut, runs_of, numbered}
use Rattle.tree_plan.specs.Paths.{groups_of, children_of, parent_of, bit_in, bit_of, group_at_of, child_towards}
use Rattle.wheel_core.specs.WheelExpiry.{wheel_expiry_of, wheel_level_of}
use Rattle.cpu_bases.specs.CpuBases.{class_in}
use Rattle.core_world.specs.walk_rules.Edges.{StandsBelow, edge_of}
use Rattle.core_world.specs.walk_rules.Hierarchy.{at_top, side}
use Rattle.core_world.specs.walk_rules.Queues.{IsCarried, will_tell_by, tells_by}
use Rattle.core_world.specs.walk_rules.Stages.{forget}
use Rattle.core_world.specs.coverage.Coverage.{Told, Leads, Woken}
use Rattle.core_world.specs.coverage.Coverage as chains
use Rattle.core_world.specs.Covered.{Carried, Covered, LeadsTo, kept_wakeup, machine_of}
use Rattle.core_world.specs.Covered as ways
use Rattle.core_world.specs.Enabled.{MayArm}
use Rattle.core_world.specs.Start.{start_of}
use Rattle.core_world.specs.Steps.{stepped}
use Rattle.core_world.specs.World.{World, cpu_of, group_of, scene_of}
use Rattle.core_world.specs.declared.step.Step.TheVariants as steps
use Rattle.core_facts.specs.Worked.Rows.{one_node_of}

abbrev tree : Shape
tree = one_node_of 10

unfoldable pub at_ten : World
at_ten = stepped (start_of (one_node_of 10) 1) (steps.Clock 10)

unfoldable pub armed_at_ten : World
armed_at_ten = stepped at_ten (steps.Arm (record { 0 = 9 }) (record { 0 = 0 }) Global 60 0 0 0)

nowhere : (d : ℕ) → class_in 0 (cpu_of at_ten d).bases ≡ None
unfolding wheel_expiry_of wheel_level_of groups_of levels_from levels_for log2up least_power node_cpus rows_at cut runs_of children_of numbered parent_of same_child bit_in bit_of group_at_of child_towards at_ten
nowhere zero = refl
nowhere (suc zero) = refl
nowhere (suc (suc zero)) = refl
nowhere (suc (suc (suc zero))) = refl
nowhere (suc (suc (suc (suc zero)))) = refl
nowhere (suc (suc (suc (suc (suc zero))))) = refl
nowhere (suc (suc (suc (suc (suc (suc zero)))))) = refl
nowhere (suc (suc (suc (suc (suc (suc (suc zero))))))) = refl
nowhere (suc (suc (suc (suc (suc (suc (suc (suc zero)))))))) = refl
nowhere (suc (suc (suc (suc (suc (suc (suc (suc (suc zero))))))))) = refl
nowhere (suc (suc (suc (suc (suc (suc (suc (suc (suc (suc d)))))))))) = refl

pub may_arm : MayArm at_ten 9 0 Global 60
unfolding wheel_expiry_of wheel_level_of groups_of levels_from levels_for log2up least_power node_cpus rows_at cut runs_of children_of numbered parent_of same_child bit_in bit_of group_at_of child_towards at_ten
may_arm =
    let ten : length at_ten.cpus ≡ 10 = refl in
    record {
      is_free = record { in_range = omega (arith, ten); free = refl };
      online = refl;
      may_run = inl refl;
      known = omega arith;
      not_queued = nowhere;
      to_come = omega arith;
      in_time = omega arith;
      none_behind = λ x e. absurd (none-some x e);
    }

-- all walks are over, the leaf sleeps, and the top doesn't know of it
pub record IsLost (w : World) : Type 0 where
  pub tree : w.tree ≡ one_node_of 10
  pub free : (d : ℕ) → (cpu_of w d).walk ≡ None
  pub top_empty : (machine_of w).event 2 1 ≡ None
  pub leaf_off : (group_of w 1).migrator ≡ None
  pub outside : (cpu_of w 9).inside ≡ false
  pub late : 61 < unwrap_or (kept_wakeup (cpu_of w 9)) 0

leaf_is : group_at_of tree 9 0 ≡ Some 1
unfolding wheel_expiry_of wheel_level_of groups_of levels_from levels_for log2up least_power node_cpus rows_at cut runs_of children_of numbered parent_of same_child bit_in bit_of group_at_of child_towards
leaf_is = refl

not_top : at_top tree 9 0 ≡ false
unfolding wheel_expiry_of wheel_level_of groups_of levels_from levels_for log2up least_power node_cpus rows_at cut runs_of children_of numbered parent_of same_child bit_in bit_of group_at_of child_towards
not_top = refl

parent_is : group_at_of tree 9 1 ≡ Some 2
unfolding wheel_expiry_of wheel_level_of groups_of levels_from levels_for log2up least_power node_cpus rows_at cut runs_of children_of numbered parent_of same_child bit_in bit_of group_at_of child_towards
parent_is = refl

bit_is : side tree 9 1 ≡ 1
unfolding wheel_expiry_of wheel_level_of groups_of levels_from levels_for log2up least_power node_cpus rows_at cut runs_of children_of numbered parent_of same_child bit_in bit_of group_at_of child_towards
bit_is = refl

module _ (w : World) (lost : IsLost w) where
  no_told : (level : ℕ) → Told (machine_of w) 9 61 (suc level) → ⊥
  no_told level told =
      let e = told.events 1 (omega arith) in
      none-some e.expiry (sym lost.top_empty
      ∙ (ap (λ g. (machine_of w).event g 1) (same_Some 2 e.in_group (sym parent_is ∙ (ap (λ t. group_at_of t 9 1) (sym lost.tree) ∙ e.on_path)))
      ∙ (ap (λ b. (machine_of w).event e.in_group b) (sym bit_is ∙ ap (λ t. side t 9 1) (sym lost.tree)) ∙ e.there)))

  sleeps : (g : ℕ) → group_at_of w.tree 9 0 ≡ Some g → (group_of w g).migrator ≡ None
  sleeps g at = sym (ap (λ h. (group_of w h).migrator) (same_Some 1 g (sym leaf_is ∙ (ap (λ t. group_at_of t 9 0) (sym lost.tree) ∙ at)))) ∙ lost.leaf_off

  no_leads : (m g : ℕ) → (group_of w g).migrator ≡ None → Leads (machine_of w) m g → ⊥
  no_leads m g off (chains.to_cpu _ k by child on) = none-some k (sym off ∙ by)
  no_leads m g off (chains.to_group _ k h by child leads) = none-some k (sym off ∙ by)

  no_leads_to : (z : Child) (g : ℕ) → (group_of w g).migrator ≡ None → LeadsTo w z g → ⊥
  no_leads_to z g off (ways.there _ k by child) = none-some k (sym off ∙ by)
  no_leads_to z g off (ways.further _ k h by child leads) = none-some k (sym off ∙ by)

  none_stands : (x : ℕ) → StandsBelow w.tree (scene_of w) x → ⊥
  none_stands x (d, e) = none-some x (sym (ap (λ m. option_and_then (group_at_of w.tree d) (edge_of (option_map forget m))) (lost.free d)) ∙ e)

  none_carries : (x : ℕ) → IsCarried w.tree (scene_of w) x → ⊥
  none_carries x (d, inl e) = none-some x (sym (ap (λ m. will_tell_by w.tree d (option_map forget m)) (lost.free d)) ∙ e)
  none_carries x (d, inr e) = none-some x (sym (ap (λ m. tells_by w.tree d (option_map forget m)) (lost.free d)) ∙ e)

  not_carried : Carried w 9 61 → ⊥
  not_carried (ways.by_walk k is other) = none-some k (sym (lost.free 9) ∙ is)
  not_carried (ways.by_interrupt inside) = true≢false (sym inside ∙ lost.outside)
  not_carried (ways.on_the_way zero x told path off low (inl by)) = none_stands x by
  not_carried (ways.on_the_way zero x told path off low (inr by)) = none_carries x by
  not_carried (ways.on_the_way (suc level) x told path off low by) = no_told level told
  not_carried (ways.by_role zero g z told path leads off by) = no_leads_to z g (sleeps g path) leads
  not_carried (ways.by_role (suc level) g z told path leads off by) = no_told level told
  not_carried (ways.at_idle_top zero top e told path is_top off event by under_way) = true≢false (sym is_top ∙ (ap (λ t. at_top t 9 0) lost.tree ∙ not_top))
  not_carried (ways.at_idle_top (suc level) top e told path is_top off event by under_way) = no_told level told

  held_at : (level g m : ℕ) → group_at_of w.tree 9 level ≡ Some g → Told (machine_of w) 9 61 level → Leads (machine_of w) m g → ⊥
  held_at zero g m path told leads = no_leads m g (sleeps g path) leads
  held_at (suc level) g m path told leads = no_told level told

  top_at : (level : ℕ) → group_at_of w.tree 9 (suc level) ≡ None → Told (machine_of w) 9 61 level → ⊥
  top_at zero none told = none-some 2 (sym none ∙ (ap (λ t. group_at_of t 9 1) lost.tree ∙ parent_is))
  top_at (suc level) none told = no_told level told

  pub not_covered : Covered w 9 61 → ⊥
  not_covered (inl held) = held_at held.level held.in_group held.runner held.on_path held.told held.leads
  not_covered (inr (inl (inl itself))) =
      let at = ap (λ m. unwrap_or m 0) itself.keeps in
      let soon = itself.in_time in
      let late = lost.late in
      absurd (omega (arith, at, soon, late))
  not_covered (inr (inl (inr top))) = top_at top.level (ap (λ n. group_at_of w.tree 9 n) (let e : suc top.level ≡ top.level + 1 = omega arith in e) ∙ top.is_top) top.told
  not_covered (inr (inr carried)) = not_carried carried
