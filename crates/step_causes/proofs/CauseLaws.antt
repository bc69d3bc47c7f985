-- where a walk stands that takes a lock
use Rattle.std.proofs.Common.{◌≡◌, inl, inr, ℕ, zero, suc, ◌-◌, ◌<◌, Option, Some, None, refl, sym}
use Rattle.std.proofs.Common.{ap, ◌∙◌, subst, arith}
use Rattle.std.specs.Prelude.{◌⊎◌, option_map}
use Rattle.std.proofs.lemmas.Option.{none-some}
use Rattle.tree_plan.specs.Paths.{group_at_of}
use Rattle.walk_rules.specs.declared.walk.Walk.{Walk}
use Rattle.walk_rules.specs.declared.walk.Stage.TheVariants as stages
use Rattle.walk_rules.specs.Standing.{FitsStage, StandsInTree}
use Rattle.walk_rules.specs.Stages.{forget}
use Rattle.core_world.specs.World.{World, cpu_of, scene_of}
use Rattle.step_core.specs.core_state.Kept.{HasLevel, WorldFits}

leaf_or : (m : Option ℕ) → ((g : ℕ) × (m ≡ Some g)) ⊎ (m ≡ None)
leaf_or None = inr refl
leaf_or (Some g) = inl (g, refl)

-- a walk that isn't about to finish stands at a group of its path
module _ (w : World) (fits : WorldFits w) (c : ℕ) (k : Walk) (walk : (cpu_of w c).walk ≡ Some k) where
  seen : (scene_of w).walk c ≡ Some (forget k)
  seen = ap (option_map forget) walk

  stands : (k.stage ≡ stages.Finish → ⊥) → StandsInTree w.tree c (forget k)
  stands other = elim (leaf_or (group_at_of w.tree c 0)) [
    | inl g ↦ fits.lawful.placed.in_tree c (forget k) seen g
    | inr none ↦ absurd (other (fits.lawful.placed.alone c (forget k) seen (λ g. none-some g.0 (sym none ∙ g.1))).finishing)
  ]

  pub group_level : k.stage ≡ stages.LockGroup → HasLevel w.tree c k.level
  group_level at = (stands (λ finish. cc (at, finish))).there

  pub child_level : k.stage ≡ stages.LockChild → HasLevel w.tree c (k.level - 1)
  child_level at =
      let here = stands (λ finish. cc (at, finish)) in
      let fit : FitsStage w.tree c k.kind k.level stages.LockChild = subst (FitsStage w.tree c k.kind k.level) at here.fits in
      lower k.level fit.1 here.there
    where
      lower : (l : ℕ) → 0 < l → HasLevel w.tree c l → HasLevel w.tree c (l - 1)
      lower zero high has = absurd (omega arith)
      lower (suc l) high has =
          let same : suc l - 1 ≡ l = omega arith in
          subst (HasLevel w.tree c) (sym same) (fits.lawful.hierarchy.lower c l has.0 has.1)
