-- the kinds of walk that come to an end of their own
use Rattle.std.proofs.Common.{◌≡◌, ◌≢◌, ℕ, Option, Some, None, refl, sym, ◌∙◌, subst}
use Rattle.std.proofs.lemmas.Option.{none-some}
use Rattle.tree_plan.specs.Paths.{group_at_of}
use Rattle.walk_rules.specs.declared.walk.Walk.{Walk}
use Rattle.walk_rules.specs.declared.walk.WalkKind.TheVariants as kinds
use Rattle.walk_rules.specs.declared.walk.Stage.TheVariants as stages
use Rattle.walk_rules.specs.Standing.{FitsStage}
use Rattle.core_world.specs.World.{World}
use Rattle.shared_rule.specs.declared.parts.BoxView.{BoxView}
use Rattle.shared_rule.specs.Plays.{WalkFits}

-- an activation doesn't
pub no_activation : (o : World) (b : BoxView) (k : Walk) → WalkFits o b k
    → k.stage ≡ stages.Finish → k.kind ≢ kinds.Activate
no_activation o b k fits at = by_leaf (group_at_of o.tree b.cpu 0) refl
  where
    by_leaf : (m : Option ℕ) → group_at_of o.tree b.cpu 0 ≡ m → k.kind ≢ kinds.Activate
    by_leaf (Some g) is =
        subst (FitsStage o.tree b.cpu k.kind k.level) at (fits.fits (g, is))
    by_leaf None is = (fits.alone (λ h. none-some h.0 (sym is ∙ h.1))).tells
