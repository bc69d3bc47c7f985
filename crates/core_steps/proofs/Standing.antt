-- for crates above: where a walk stands as it makes a step, and that the world fits after it
use Rattle.std.proofs.Common.{◌≡◌, inl, inr, ℕ, zero, suc, ◌-◌, ◌<◌, Bool, Some, sym, ap, ◌∙◌}
use Rattle.std.proofs.Common.{subst, arith}
use Rattle.std.specs.Prelude.{option_map, unwrap_or}
use Rattle.tm_base.specs.declared.names.CpuId.{CpuId}
use Rattle.tree_plan.specs.Shape.{Shape}
use Rattle.tree_plan.specs.Paths.{IsBelow}
use Rattle.walk_rules.specs.declared.walk.Walk.{Walk}
use Rattle.walk_rules.specs.declared.walk.Stage.{Stage}
use Rattle.walk_rules.specs.declared.walk.Stage.TheVariants as stages
use Rattle.walk_rules.specs.Hierarchy.{IsHierarchy, group_on}
use Rattle.walk_rules.specs.Stages.{forget}
use Rattle.walk_rules.specs.Standing.{FitsStage}
use Rattle.core_world.specs.declared.step.Step.TheVariants as steps
use Rattle.core_world.specs.Enabled.{MayGoOn, MayWalk}
use Rattle.core_world.specs.Steps.{swapped, walk_made, walked}
use Rattle.core_world.specs.World.{World, cpu_of, scene_of}
use Rattle.core_state.proofs.core_laws.Walks.Stands.{stage_fits, stands_in}
use Rattle.core_state.specs.Kept.{HasLevel, StaysFit, WorldFits}
use Rattle.core_state.proofs.Fits.{walks_fit}
use Rattle.core_state.specs.core_facts.Stepping.{MayStepAt}

pub may_walk : (w : World) (c : ℕ) (k : Walk) (st : Stage) → MayStepAt w c k st → MayWalk w c
may_walk w c k st stands = record {
  in_range = stands.in_range;
  made = k;
  walk = stands.walk;
  may_go_on = subst (MayGoOn w c k) (sym stands.at) stands.may_go_on;
}

pub walk_is : (w : World) (c : ℕ) (k : Walk) (st : Stage) → MayStepAt w c k st
    → walk_made w c (cpu_of w c).walk ≡ walked w c k st
walk_is w c k st stands = ap (walk_made w c) stands.walk ∙ ap (walked w c k) stands.at

pub walked_fits : (w : World) (c : CpuId) (k : Walk) (st : Stage) → StaysFit w → MayStepAt w c.0 k st
    → WorldFits (walked w c.0 k st)
walked_fits w c k st stays stands =
    subst WorldFits (walk_is w c.0 k st stands) (stays (steps.Walk c) (may_walk w c.0 k st stands))

module _ (w : World) (fits : WorldFits w) (c : ℕ) (k : Walk) (st : Stage) (walk : (cpu_of w c).walk ≡ Some k)
    (at : k.stage ≡ st) where
  seen : (scene_of w).walk c ≡ Some (forget k)
  seen = ap (option_map forget) walk

  pub level_at : (st ≡ stages.Finish → ⊥) → HasLevel w.tree c k.level
  level_at other = stands_in w.tree (scene_of w) (walks_fit w fits) c (forget k) seen (λ e. other (sym at ∙ e))

  pub fit_at : (st ≡ stages.Finish → ⊥) → FitsStage w.tree c k.kind k.level st
  fit_at other = elim (stage_fits w.tree (scene_of w) (walks_fit w fits) c (forget k) seen) [
    | inl is ↦ subst (FitsStage w.tree c k.kind k.level) at is
    | inr finish ↦ absurd (other (sym at ∙ finish))
  ]

module _ (w : World) (fits : WorldFits w) (c : ℕ) (k : Walk) (st : Stage) (stands : MayStepAt w c k st) where
  pub level_here : (st ≡ stages.Finish → ⊥) → HasLevel w.tree c k.level
  level_here = level_at w fits c k st stands.walk stands.at

  pub fit : (st ≡ stages.Finish → ⊥) → FitsStage w.tree c k.kind k.level st
  fit = fit_at w fits c k st stands.walk stands.at

-- it is below the group of its level
pub below_here : (t : Shape) (c l r : ℕ) → HasLevel t c l → r ≡ group_on t c l → IsBelow t c r
below_here t c l r has is =
    (l, has.1 ∙ ap Some (sym (is ∙ ap (λ o. unwrap_or o 0) has.1)))

-- the level below
pub lower_level : (t : Shape) (c l : ℕ) → IsHierarchy t → 0 < l → HasLevel t c l → HasLevel t c (l - 1)
lower_level t c zero tree high has = absurd (omega arith)
lower_level t c (suc l) tree high has =
    let same : suc l - 1 ≡ l = omega arith in
    subst (HasLevel t c) (sym same) (tree.lower c l has.0 has.1)

-- an exchange that is made, or fails
pub exchange_fits : (w : World) (c : CpuId) (k : Walk) (fresh : Bool) → StaysFit w
    → MayStepAt w c.0 k stages.Swap → k.fresh ≡ fresh → WorldFits (swapped w c.0 k fresh)
exchange_fits w c k fresh stays stands is =
    subst WorldFits (ap (swapped w c.0 k) is) (walked_fits w c k stages.Swap stays stands)
