use Rattle.std.proofs.Common.{refl, zero, suc, ℕ, ◌≡◌, ◌∙◌, ◌<◌, None, false, inl, inr, ap, sym}
use Rattle.std.proofs.Common.{arith, true≢false}
use Rattle.std.specs.Prelude.{unwrap_or}
use Rattle.std.proofs.lemmas.Option.{none-some}
use Rattle.tm_base.specs.Children.{same_child}
use Rattle.tree_plan.specs.Shape.{levels_from, levels_for, log2up, least_power, node_cpus, rows_at}
use Rattle.tree_plan.specs.Shape.{cut, runs_of, numbered}
use Rattle.tree_plan.specs.Paths.{groups_of, children_of, parent_of, bit_in, bit_of, group_at_of}
use Rattle.tree_plan.specs.Paths.{child_towards}
use Rattle.wheel_core.specs.WheelExpiry.{wheel_expiry_of, wheel_level_of}
use Rattle.core_world.specs.coverage.Coverage.{Told}
use Rattle.core_world.specs.Covered.{Carried, Covered, kept_wakeup, machine_of}
use Rattle.core_world.specs.Covered as ways
use Rattle.core_world.specs.World.{cpu_of}
use Rattle.core_facts.specs.Worked.Rows.{forgotten}
use Rattle.core_facts.proofs.worked_rows.row_forgotten_event.Goals as goal

-- no group has an event in the slot of CPU 1
no_event : (g : ℕ) → (machine_of forgotten).event g ((machine_of forgotten).bit 1 0) ≡ None
unfolding wheel_expiry_of wheel_level_of groups_of levels_from levels_for log2up least_power node_cpus rows_at cut runs_of children_of numbered parent_of same_child bit_in bit_of group_at_of child_towards
no_event zero = refl
no_event (suc g) = refl

no_told : (level : ℕ) → Told (machine_of forgotten) 1 61 level → ⊥
no_told level told =
    let e = told.events 0 (omega arith) in
    none-some e.expiry (sym (no_event e.in_group) ∙ e.there)

no_walk : (cpu_of forgotten 1).walk ≡ None
unfolding wheel_expiry_of wheel_level_of groups_of levels_from levels_for log2up least_power node_cpus rows_at cut runs_of children_of numbered parent_of same_child bit_in bit_of group_at_of child_towards
no_walk = refl

not_inside : (cpu_of forgotten 1).inside ≡ false
unfolding wheel_expiry_of wheel_level_of groups_of levels_from levels_for log2up least_power node_cpus rows_at cut runs_of children_of numbered parent_of same_child bit_in bit_of group_at_of child_towards
not_inside = refl

-- its own wakeup never comes
wakes_late : 61 < unwrap_or (kept_wakeup (cpu_of forgotten 1)) 0
unfolding wheel_expiry_of wheel_level_of groups_of levels_from levels_for log2up least_power node_cpus rows_at cut runs_of children_of numbered parent_of same_child bit_in bit_of group_at_of child_towards
wakes_late = omega arith

not_carried : Carried forgotten 1 61 → ⊥
not_carried (ways.by_walk k is other) = none-some k (sym no_walk ∙ is)
not_carried (ways.by_interrupt inside) = true≢false (sym inside ∙ not_inside)
not_carried (ways.on_the_way level x told path off low by) = no_told level told
not_carried (ways.by_role level g z told path leads off by) = no_told level told
not_carried (ways.at_idle_top level top e told path is_top off event by under_way) = no_told level told

not_covered : Covered forgotten 1 61 → ⊥
not_covered (inl held) = no_told held.level held.told
not_covered (inr (inl (inl itself))) =
    let at = ap (λ m. unwrap_or m 0) itself.keeps in
    let soon = itself.in_time in
    absurd (omega (arith, at, soon, wakes_late))
not_covered (inr (inl (inr top))) = no_told top.level top.told
not_covered (inr (inr carried)) = not_carried carried

pub returns : goal.returns
unfolding wheel_expiry_of wheel_level_of groups_of levels_from levels_for log2up least_power node_cpus rows_at cut runs_of children_of numbered parent_of same_child bit_in bit_of group_at_of child_towards
returns c = record {
  idle = refl;
  first = refl;
  done = refl;
  awake = refl;
  uncovered = not_covered;
}
