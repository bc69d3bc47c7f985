-- for crates above: where the walk of a part stands
use Rattle.std.proofs.Common.{◌≡◌, ◌≢◌, ℕ, zero, suc, ◌-◌, ◌<◌, Bool, true, false, true≢false}
use Rattle.std.proofs.Common.{Option, Some, None, refl, sym, ap, ◌∙◌, subst, arith}
use Rattle.std.proofs.lemmas.Option.{none-some}
use Rattle.std.specs.Prelude.{unwrap_or}
use Rattle.tree_plan.specs.Shape.{Shape}
use Rattle.tree_plan.specs.Paths.{group_at_of}
use Rattle.walk_rules.specs.declared.walk.Walk.{Walk}
use Rattle.walk_rules.specs.declared.walk.Stage.{Stage}
use Rattle.walk_rules.specs.declared.walk.Stage.TheVariants as stages
use Rattle.walk_rules.specs.Hierarchy.{HasGroup, IsHierarchy, group_on}
use Rattle.walk_rules.specs.Standing.{FitsStage}
use Rattle.core_world.specs.World.{World}
use Rattle.shared_rule.specs.core_state.Kept.{HasLevel}
use Rattle.shared_rule.specs.declared.parts.BoxView.{BoxView}
use Rattle.shared_rule.specs.Plays.{WalkFits}

-- whether the stage is that at which a walk ends
abbrev pub finishes : Stage → Bool
finishes stages.Own = false
finishes stages.Up = false
finishes (stages.Mark more) = false
finishes stages.Read = false
finishes stages.Child = false
finishes stages.Swap = false
finishes stages.LockChild = false
finishes stages.LockGroup = false
finishes stages.SeeChild = false
finishes stages.SeeGroup = false
finishes (stages.Scan k) = false
finishes stages.Store = false
finishes (stages.First k) = false
finishes stages.FreeGroup = false
finishes stages.FreeChild = false
finishes stages.Finish = true
finishes stages.Handing = false

-- a walk at another stage doesn't end
goes_on : (k : Walk) (at : Stage) → k.stage ≡ at → finishes at ≡ false → k.stage ≢ stages.Finish
goes_on k at is other z = true≢false (ap finishes (sym z ∙ is) ∙ other)

-- a walk that doesn't end is that of a CPU that has a group
pub has_group : (o : World) (b : BoxView) (k : Walk) (at : Stage) → WalkFits o b k → k.stage ≡ at
    → finishes at ≡ false → HasGroup o.tree b.cpu
has_group o b k at fits is other = by_leaf (group_at_of o.tree b.cpu 0) refl
  where
    by_leaf : (m : Option ℕ) → group_at_of o.tree b.cpu 0 ≡ m → HasGroup o.tree b.cpu
    by_leaf (Some g) e = (g, e)
    by_leaf None e =
        absurd (goes_on k at is other (fits.alone (λ h. none-some h.0 (sym e ∙ h.1))).finishing)

-- it stands at a group
pub stands : (o : World) (b : BoxView) (k : Walk) (at : Stage) → WalkFits o b k → k.stage ≡ at
    → finishes at ≡ false → HasLevel o.tree b.cpu k.level
stands o b k at fits is other = fits.in_tree (goes_on k at is other)

-- its kind and level come to its stage
pub fits_at : (o : World) (b : BoxView) (k : Walk) (at : Stage) → WalkFits o b k → k.stage ≡ at
    → finishes at ≡ false → FitsStage o.tree b.cpu k.kind k.level at
fits_at o b k at fits is other =
    subst (FitsStage o.tree b.cpu k.kind k.level) is (fits.fits (has_group o b k at fits is other))

-- above a leaf it stands over a group
pub stands_over : (o : World) (b : BoxView) (k : Walk) (at : Stage) → IsHierarchy o.tree
    → WalkFits o b k → k.stage ≡ at → finishes at ≡ false → 0 < k.level
    → HasLevel o.tree b.cpu (k.level - 1)
stands_over o b k at tree fits is other high =
    by_level k.level high (stands o b k at fits is other)
  where
    by_level : (l : ℕ) → 0 < l → HasLevel o.tree b.cpu l → HasLevel o.tree b.cpu (l - 1)
    by_level zero high has = absurd (omega arith)
    by_level (suc l) high has =
        let same : l ≡ suc l - 1 = omega arith in
        subst (HasLevel o.tree b.cpu) same (tree.lower b.cpu l has.0 has.1)

-- the group of a path
pub on_path : (t : Shape) (c l g : ℕ) → group_at_of t c l ≡ Some g → group_on t c l ≡ g
on_path t c l g is = ap (λ (m : Option ℕ). unwrap_or m 0) is

-- a path with a level has a group there
pub path_to : (t : Shape) (c l : ℕ) → HasLevel t c l → group_at_of t c l ≡ Some (group_on t c l)
path_to t c l has = has.1 ∙ ap Some (sym (on_path t c l has.0 has.1))
