-- what is known where a walk makes its step
use Rattle.std.proofs.Common.{◌≡◌, ◌⊎◌, inl, inr, ℕ, zero, suc, ◌<◌, Bool, true, false, true≢false, length, Option, Some, None, refl, sym, ap, ◌∙◌, subst, arith}
use Rattle.std.specs.Prelude.{◌||◌, if◌then◌else◌, is_none, is_some, option_map, option_and_then, unwrap_or}
use Rattle.std.specs.Option.{option_map_or}
use Rattle.std.proofs.lemmas.Option.{none-some, same_Some}
use Rattle.tm_base.specs.declared.names.Child.{Child}
use Rattle.tm_base.specs.Children.{of_group}
use Rattle.tree_plan.specs.Paths.{bit_of, child_towards, group_at_of, parent_of}
use Rattle.walk_rules.specs.declared.walk.Walk.{Walk}
use Rattle.walk_rules.specs.declared.walk.Stage.{Stage}
use Rattle.walk_rules.specs.declared.walk.Stage.TheVariants as stages
use Rattle.walk_rules.specs.Clearing.{MarksHold}
use Rattle.walk_rules.specs.Edges.{edge_level, edge_of, heading}
use Rattle.walk_rules.specs.Hierarchy.{IsHierarchy, at_top, group_on, side}
use Rattle.walk_rules.specs.Locks.{LocksHold}
use Rattle.walk_rules.specs.Scene.{is_on}
use Rattle.walk_rules.specs.Stages.{forget}
use Rattle.walk_rules.specs.Standing.{FitsStage, FlagsAt}
use Rattle.core_world.specs.Frames.{IsSized}
use Rattle.core_world.specs.Steps.{child_on, here}
use Rattle.core_world.specs.World.{World, cpu_of, group_of, scene_of}
use Rattle.core_laws.specs.Walks.Fit.{WalksFit}
use Rattle.core_laws.proofs.Walks.Stands.{stage_fits, stands_in}
use Rattle.core_laws.specs.Edges.Layer.{EdgesFit}
use Rattle.core_laws.proofs.Edges.Facts.{group_child, through_group}
use Rattle.core_laws.specs.Events.Layer.{EventsFit}
use Rattle.core_laws.proofs.Events.Below.{has_leaf}
use Rattle.core_laws.proofs.Events.Carries.{Carries, CarriesAt}

-- what holds of the world before a step
pub record BeforeStep (w : World) : Type 0 where
  pub hierarchy : IsHierarchy w.tree
  pub sized : IsSized w
  pub walks : WalksFit w.tree (scene_of w)
  pub edges : EdgesFit w.tree (scene_of w)
  pub marks : MarksHold w.tree (scene_of w)
  pub locks : LocksHold w.tree (scene_of w)
  pub events : EventsFit w.tree (scene_of w)

pub is_none_of : {A : Type 0} (m : Option A) → is_none m ≡ true → m ≡ None
is_none_of None e = refl
is_none_of (Some g) e = absurd (true≢false (sym e))

pub or_true : (p q : Bool) → (p || q) ≡ true → (p ≡ true) ⊎ (q ≡ true)
or_true true q e = inl refl
or_true false q e = inr e

pub either : (q : Bool) → (q ≡ true) ⊎ (q ≡ false)
either true = inl refl
either false = inr refl

-- what a walk's claim on a group says
pub claimed : (over : Bool) (m : Option ℕ) (z : ℕ) → (if over then None else m) ≡ Some z → (over ≡ false) × (m ≡ Some z)
claimed true m z e = absurd (none-some z e)
claimed false m z e = (refl, e)

module _ (w : World) (c : ℕ) (k : Walk) (a : BeforeStep w) (is : (cpu_of w c).walk ≡ Some k) where
  pub walk_is : (scene_of w).walk c ≡ Some (forget k)
  walk_is = ap (option_map forget) is

  -- at its stage
  pub said : (st : Stage) → k.stage ≡ st → (z : ℕ) → Carries w.tree c ((scene_of w).walk c) z → CarriesAt w.tree c k.level k.over st z
  said st e z q = subst (λ i. CarriesAt w.tree c k.level k.over i z) e (subst (λ m. Carries w.tree c m z) walk_is q)

  pub no_heading : (st : Stage) → k.stage ≡ st → edge_level k.level st ≡ None → (z : ℕ) → heading w.tree (scene_of w) c ≡ Some z → ⊥
  no_heading st e none z head = none-some z (sym (ap (option_and_then (group_at_of w.tree c)) (ap edge_of walk_is ∙ (ap (edge_level k.level) e ∙ none))) ∙ head)

  pub fits : (st : Stage) → k.stage ≡ st → (st ≡ stages.Finish → ⊥) → FitsStage w.tree c k.kind k.level st
  fits st e other = elim (stage_fits w.tree (scene_of w) a.walks c (forget k) walk_is) [
    | inl q ↦ subst (FitsStage w.tree c k.kind k.level) e q
    | inr finishing ↦ absurd (other (sym e ∙ finishing))
  ]

  pub flags : (st : Stage) → k.stage ≡ st → (l g : ℕ) → group_at_of w.tree c l ≡ Some g → FlagsAt (at_top w.tree c k.level) k.on k.over st
  flags st e l g at = subst (FlagsAt (at_top w.tree c k.level) k.on k.over) e (a.walks.flags c (forget k) walk_is (has_leaf w.tree a.hierarchy c l g at))

  pub named : (l g : ℕ) → group_at_of w.tree c l ≡ Some g → group_on w.tree c l ≡ g
  named l g e = ap (λ m. unwrap_or m 0) e

  pub sided : (l : ℕ) (m : Child) → child_towards w.tree c l ≡ Some m → side w.tree c l ≡ bit_of w.tree m
  sided l m e = ap (λ z. option_map_or (bit_of w.tree) z 0) e

  pub in_range : (l g : ℕ) → group_at_of w.tree c l ≡ Some g → group_on w.tree c l < length w.groups
  in_range l g e = let n = named l g e in let low = a.hierarchy.within c l g e in omega (arith, n, low, a.sized.groups)

  -- the group of its level
  pub at_here : (st : Stage) → k.stage ≡ st → (st ≡ stages.Finish → ⊥) → group_at_of w.tree c k.level ≡ Some (here w c k)
  at_here st e other =
      let g = stands_in w.tree (scene_of w) a.walks c (forget k) walk_is (λ z. other (sym e ∙ z)) in
      g.1 ∙ ap Some (sym (named k.level g.0 g.1))

  -- the group of its level is on where its migrator is there
  pub sees_on : (z : ℕ) → group_at_of w.tree c k.level ≡ Some z → is_some (group_of w (here w c k)).migrator ≡ true → is_on (scene_of w) (of_group z) ≡ true
  sees_on z at on = subst (λ n. is_some (group_of w n).migrator ≡ true) (named k.level z at) on

  -- no group has its parent above the top
  pub not_top : (l g p : ℕ) → group_at_of w.tree c l ≡ Some g → parent_of w.tree (of_group g) ≡ Some p → at_top w.tree c l ≡ true → ⊥
  not_top l g p at parent top = none-some p (sym (is_none_of _ top) ∙ (a.hierarchy.onwards c (suc l) (of_group g) (through_group w.tree c l g at) ∙ parent))

  -- what it sees of its child
  pub child_is_on : (l : ℕ) (z : Child) → child_on w c l ≡ true → child_towards w.tree c l ≡ Some z → is_on (scene_of w) z ≡ true
  child_is_on zero z on at = absurd (true≢false (sym on))
  child_is_on (suc l) z on at = saw_on (group_at_of w.tree c l) z on (sym (group_child w.tree c l) ∙ at)
    where
      saw_on : (m : Option ℕ) (z : Child) → is_some (group_of w (unwrap_or m 0)).migrator ≡ true → option_map of_group m ≡ Some z → is_on (scene_of w) z ≡ true
      saw_on None z on e = absurd (none-some z e)
      saw_on (Some x) z on e = subst (λ y. is_on (scene_of w) y ≡ true) (same_Some _ _ e) on
