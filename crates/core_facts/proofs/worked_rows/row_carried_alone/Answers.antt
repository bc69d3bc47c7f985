use Rattle.std.proofs.Common.{refl, zero, suc, ℕ, ◌≡◌, ◌∙◌, None, inl, inr, sym}
use Rattle.std.proofs.Common.{arith}
use Rattle.std.proofs.lemmas.Option.{none-some}
use Rattle.tm_base.specs.Children.{same_child}
use Rattle.tree_plan.specs.Shape.{levels_from, levels_for, log2up, least_power, node_cpus, rows_at}
use Rattle.tree_plan.specs.Shape.{cut, runs_of, numbered}
use Rattle.tree_plan.specs.Paths.{groups_of, children_of, parent_of, bit_in, bit_of, group_at_of}
use Rattle.tree_plan.specs.Paths.{child_towards}
use Rattle.wheel_core.specs.WheelExpiry.{wheel_expiry_of, wheel_level_of}
use Rattle.core_world.specs.coverage.Coverage.{Told, Woken}
use Rattle.core_world.specs.Covered.{kept_wakeup, machine_of}
use Rattle.core_world.specs.Covered as ways
use Rattle.core_world.specs.World.{cpu_of}
use Rattle.core_facts.specs.Worked.Rows.{cover_begun}
use Rattle.core_facts.proofs.worked_rows.row_carried_alone.Goals as goal

-- no group has an event in the slot of CPU 1
no_event : (g : ℕ) → (machine_of cover_begun).event g ((machine_of cover_begun).bit 1 0) ≡ None
unfolding wheel_expiry_of wheel_level_of groups_of levels_from levels_for log2up least_power node_cpus rows_at cut runs_of children_of numbered parent_of same_child bit_in bit_of group_at_of child_towards
no_event zero = refl
no_event (suc g) = refl

no_told : (level : ℕ) → Told (machine_of cover_begun) 1 61 level → ⊥
no_told level told =
    let e = told.events 0 (omega arith) in
    none-some e.expiry (sym (no_event e.in_group) ∙ e.there)

-- while its walk goes on it keeps no wakeup
no_wakeup : kept_wakeup (cpu_of cover_begun 1) ≡ None
unfolding wheel_expiry_of wheel_level_of groups_of levels_from levels_for log2up least_power node_cpus rows_at cut runs_of children_of numbered parent_of same_child bit_in bit_of group_at_of child_towards
no_wakeup = refl

woken_by_none : Woken (machine_of cover_begun) 1 61 → ⊥
woken_by_none (inl itself) = none-some itself.at (sym no_wakeup ∙ itself.keeps)
woken_by_none (inr top) = no_told top.level top.told

pub returns : goal.returns
unfolding wheel_expiry_of wheel_level_of groups_of levels_from levels_for log2up least_power node_cpus rows_at cut runs_of children_of numbered parent_of same_child bit_in bit_of group_at_of child_towards
returns c = record {
  idle = refl;
  first = refl;
  carried = ways.by_walk _ refl refl;
  not_held = λ held. no_told held.level held.told;
  not_woken = woken_by_none;
}
