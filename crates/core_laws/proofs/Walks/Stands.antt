-- for crates above: where a walk stands
use Rattle.std.proofs.Common.{◌≡◌, ◌⊎◌, inl, inr, ℕ, zero, suc, Bool, true, false, Option, Some, None, refl, sym, ◌∙◌}
use Rattle.std.proofs.lemmas.Option.{none-some}
use Rattle.tree_plan.specs.Shape.{Shape}
use Rattle.tree_plan.specs.Paths.{group_at_of}
use Rattle.walk_rules.specs.declared.walk.Walk.{Walk}
use Rattle.walk_rules.specs.declared.walk.Stage.TheVariants as stages
use Rattle.walk_rules.specs.Scene.{Scene}
use Rattle.walk_rules.specs.Stages.{free_group_next, freed_next}
use Rattle.walk_rules.specs.Standing.{FitsStage}
use Rattle.core_laws.specs.Walks.Fit.{WalksFit}

pub leaf_or : (m : Option ℕ) → ((g : ℕ) × (m ≡ Some g)) ⊎ (m ≡ None)
leaf_or None = inr refl
leaf_or (Some g) = inl (g, refl)

module _ (t : Shape) (s : Scene) (fit : WalksFit t s) where
  -- a walk's kind fits its stage, or it is about to finish
  pub stage_fits : (c : ℕ) (k : Walk) → s.walk c ≡ Some k → FitsStage t c k.kind k.level k.stage ⊎ (k.stage ≡ stages.Finish)
  stage_fits c k is = elim (leaf_or (group_at_of t c 0)) [
    | inl g ↦ inl (fit.placed.in_tree c k is g).fits
    | inr none ↦ inr (fit.placed.alone c k is (λ g. none-some g.0 (sym none ∙ g.1))).finishing
  ]

  -- a walk that isn't about to finish stands at a group
  pub stands_in : (c : ℕ) (k : Walk) → s.walk c ≡ Some k → (k.stage ≡ stages.Finish → ⊥) → (g : ℕ) × (group_at_of t c k.level ≡ Some g)
  stands_in c k is other = elim (leaf_or (group_at_of t c 0)) [
    | inl g ↦ (fit.placed.in_tree c k is g).there
    | inr none ↦ absurd (other (fit.placed.alone c k is (λ g. none-some g.0 (sym none ∙ g.1))).finishing)
  ]

-- as locks are let go, a walk keeps its kind
pub freed_kind : (over : Bool) (k : Walk) → (freed_next over k).kind ≡ k.kind
freed_kind true k = refl
freed_kind false k = refl

pub free_kind : (l : ℕ) (k : Walk) → (free_group_next l k).kind ≡ k.kind
free_kind zero k = freed_kind k.over k
free_kind (suc l) k = refl
