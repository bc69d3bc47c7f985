-- an activation climbs: where it stands, what its steps leave, and that it comes to its end
use Rattle.std.proofs.Common.{◌≡◌, ℕ, suc, ◌-◌, ◌*◌, ◌<◌, Bool, true, false, true≢false}
use Rattle.std.proofs.Common.{[], Option, Some, None, refl, sym, ap, ◌∙◌, subst, arith}
use Rattle.std.proofs.lemmas.Option.{none-some, same_Some}
use Rattle.std.specs.Prelude.{not, option_map}
use Rattle.event_queue.specs.declared.event.Event.{Event}
use Rattle.event_queue.specs.EventMap.{as_ignored}
use Rattle.tree_plan.specs.Shape.{Shape}
use Rattle.tree_plan.specs.Paths.{group_at_of}
use Rattle.walk_rules.specs.declared.walk.Walk.{Walk}
use Rattle.walk_rules.specs.declared.walk.WalkKind.TheVariants as kinds
use Rattle.walk_rules.specs.declared.walk.Stage.{Stage}
use Rattle.walk_rules.specs.declared.walk.Stage.TheVariants as stages
use Rattle.walk_rules.specs.Hierarchy.{HasGroup, at_top}
use Rattle.walk_rules.specs.Standing.{FitsStage, is_leaving}
use Rattle.walk_rules.specs.Stages.{at_stage, higher, mark_next, up_next}
use Rattle.core_world.specs.World.{World}
use Rattle.shared_words.specs.Exchanges.{shows_migrator}
use Rattle.shared_cpus.specs.shared_rule.declared.parts.BoxView.{BoxView}
use Rattle.shared_cpus.specs.shared_rule.declared.parts.Looked.{Looked}
use Rattle.shared_cpus.specs.shared_rule.Whole.{no_looks}
use Rattle.shared_cpus.specs.shared_rule.Plays.{PartFits, WalkFits, bound_walk, by_walk}
use Rattle.shared_cpus.specs.shared_rule.Plays.{marked_walk}
use Rattle.shared_cpus.specs.shared_rule.Plays.{marks_more, own_marked_walk, up_walk}
use Rattle.shared_cpus.specs.shared_rule.Parts.{HeldPart}
use Rattle.shared_walks.specs.Steps.{on_part}
use Rattle.shared_walks.specs.Walks.{GoesOn, HasStepped, StepOf, is_under_way}
use Rattle.walk_active.specs.Climbing.{Climbs, HasClimbed, left_at, leaf_left}
use Rattle.walk_active.specs.Climbing.{steps_left}

-- the CPU of an activation has a group
has_group : (o : World) (b : BoxView) (k : Walk) → WalkFits o b k → k.kind ≡ kinds.Activate
    → HasGroup o.tree b.cpu
has_group o b k fits is = by_leaf (group_at_of o.tree b.cpu 0) refl
  where
    by_leaf : (m : Option ℕ) → group_at_of o.tree b.cpu 0 ≡ m → HasGroup o.tree b.cpu
    by_leaf (Some g) e = (g, e)
    by_leaf None e = absurd ((fits.alone (λ h. none-some h.0 (sym e ∙ h.1))).tells is)

-- it stands at a stage of activations
stands : (o : World) (b : BoxView) (k : Walk) → WalkFits o b k → k.kind ≡ kinds.Activate
    → FitsStage o.tree b.cpu kinds.Activate k.level k.stage
stands o b k fits is =
    subst (λ kind. FitsStage o.tree b.cpu kind k.level k.stage) is
    (fits.fits (has_group o b k fits is))

-- and so it goes on
under_way : (t : Shape) (c l : ℕ) (s : Stage) → FitsStage t c kinds.Activate l s
    → is_under_way s ≡ true
under_way t c l stages.Own f = refl
under_way t c l stages.Up f = refl
under_way t c l (stages.Mark more) f = refl
under_way t c l stages.Read f = refl
under_way t c l stages.Child f = refl
under_way t c l stages.Swap f = refl
under_way t c l stages.LockChild f = refl
under_way t c l stages.LockGroup f = refl
under_way t c l stages.SeeChild f = refl
under_way t c l stages.SeeGroup f = refl
under_way t c l (stages.Scan j) f = refl
under_way t c l stages.Store f = refl
under_way t c l (stages.First j) f = refl
under_way t c l stages.FreeGroup f = refl
under_way t c l stages.FreeChild f = refl
under_way t c l stages.Finish f = absurd (f refl)
under_way t c l stages.Handing f = absurd (true≢false (sym (ap is_leaving f)))

-- the walk of a part that fits, where it is an activation
pub goes_on : (part : HeldPart) (k : Walk) → PartFits part.box → part.box.own.walk ≡ Some k
    → k.kind ≡ kinds.Activate → GoesOn part
goes_on part k fits has is =
    let o = part.box.opening in
    record {
      walk = k;
      has = has;
      stage = under_way o.tree part.box.cpu k.level k.stage
          (stands o part.box k (fits.walk k has) is);
    }

-- a walk of this kind climbs
pub is_climbing : (x : Walk) → x.kind ≡ kinds.Activate → Climbs (Some x)
is_climbing x is k e = subst (λ (z : Walk). z.kind ≡ kinds.Activate) (same_Some x k e) is

-- and so does none
pub no_walk : Climbs None
no_walk k e = absurd (none-some k e)

-- A STEP of the activation k of a part
module _ (old new : HeldPart) (k : Walk) (has : old.box.own.walk ≡ Some k)
    (empty : old.box.looked ≡ no_looks) (is : k.kind ≡ kinds.Activate) (low : k.level < 3) where
  -- which makes this of the walk and of the leaf's slot
  abbrev after : (f : BoxView → Walk → Option Walk) → Option Event → HeldPart
  after f leaf = on_part (λ b. record (by_walk f b) { leaf = leaf }) old

  climbed : (f : BoxView → Walk → Option Walk) (leaf : Option Event) → new ≡ after f leaf
      → Climbs (f old.box k) → leaf_left (f old.box k) leaf ≡ leaf_left (Some k) old.box.leaf
      → steps_left (f old.box k) < steps_left (Some k) → HasClimbed old new
  climbed f leaf made climbs left fewer = subst (HasClimbed old) (sym made) (record {
    climbs = subst (λ m. Climbs (bound_walk (f old.box) m)) (sym has) climbs;
    looked = empty;
    same = ap (λ e. on_part (λ b. record b { own = record b.own { walk = None }; leaf = e }) old)
        (subst (λ m. leaf_left (bound_walk (f old.box) m) leaf ≡ leaf_left m old.box.leaf)
        (sym has) left);
    fewer = subst (λ m. steps_left (bound_walk (f old.box) m) < steps_left m) (sym has) fewer;
  })

  -- the walk after Up
  after_up : (top more : Bool) → k.stage ≡ stages.Up →
      Climbs (up_next top more k)
      × (leaf_left (up_next top more k) old.box.leaf ≡ leaf_left (Some k) old.box.leaf)
      × (steps_left (up_next top more k) < steps_left (Some k))
  after_up true more at = (
    no_walk,
    ap (λ s. leaf_left (Some (at_stage k s)) old.box.leaf) (sym at),
    subst (λ s. 0 < left_at k.level s) (sym at) (omega arith),
  )
  after_up false more at = (
    is_climbing (at_stage k (stages.Mark more)) is,
    ap (λ s. leaf_left (Some (at_stage k s)) old.box.leaf) (sym at),
    subst (λ s. 2 * (3 - k.level) < left_at k.level s) (sym at) (omega arith),
  )

  -- the walk after Mark
  after_mark : (more : Bool) → k.stage ≡ stages.Mark more →
      Climbs (mark_next more k)
      × (leaf_left (mark_next more k) old.box.leaf ≡ leaf_left (Some k) old.box.leaf)
      × (steps_left (mark_next more k) < steps_left (Some k))
  after_mark true at = (
    is_climbing (higher k stages.Up) is,
    ap (λ s. leaf_left (Some (at_stage k s)) old.box.leaf) (sym at),
    subst (λ s. suc (2 * (3 - suc k.level)) < left_at k.level s) (sym at) (omega (arith, low)),
  )
  after_mark false at = (
    no_walk,
    ap (λ s. leaf_left (Some (at_stage k s)) old.box.leaf) (sym at),
    subst (λ s. 0 < left_at k.level s) (sym at) (omega (arith, low)),
  )

  -- at each of its stages
  steps_at : (o : World) (t : Shape) (c : ℕ) (s : Stage) → FitsStage t c kinds.Activate k.level s
      → k.stage ≡ s → StepOf o k s true old new → HasClimbed old new
  steps_at o t c stages.Own f at s =
      climbed own_marked_walk (option_map as_ignored old.box.leaf) s.1
      (is_climbing (at_stage k stages.Up) is)
      (ap (λ z. leaf_left (Some (at_stage k z)) old.box.leaf) (sym at))
      (subst (λ z. suc (2 * (3 - k.level)) < left_at k.level z) (sym at) (omega arith))
  steps_at o t c stages.Up f at s =
      let w : ℕ = s.0 in
      let next = after_up (at_top old.box.opening.tree old.box.cpu k.level)
      (not (shows_migrator w)) at in
      climbed (up_walk w) old.box.leaf
      (s.1
      ∙ (ap (λ (z : Looked). on_part (λ b. record (by_walk (up_walk w) b) {
        looked = record z { tried = [] };
      }) old) empty
      ∙ ap (λ z. on_part (λ b. record (by_walk (up_walk w) b) { looked = z }) old) (sym empty)))
      next.0 next.1 next.2
  steps_at o t c (stages.Mark more) f at s =
      let next = after_mark (marks_more k.stage) (at ∙ ap (λ z. stages.Mark (marks_more z)) (sym at)) in
      climbed marked_walk old.box.leaf s.1 next.0 next.1 next.2
  steps_at o t c stages.Read f at s = absurd (true≢false (sym f))
  steps_at o t c stages.Child f at s = absurd (true≢false (sym f))
  steps_at o t c stages.Swap f at s = absurd (true≢false (sym f))
  steps_at o t c stages.LockChild f at s = absurd (f.0 refl)
  steps_at o t c stages.LockGroup f at s = absurd (f refl)
  steps_at o t c stages.SeeChild f at s = absurd (f.0 refl)
  steps_at o t c stages.SeeGroup f at s = absurd (f refl)
  steps_at o t c (stages.Scan j) f at s = absurd (f.0 refl)
  steps_at o t c stages.Store f at s = absurd (f refl)
  steps_at o t c (stages.First j) f at s = absurd (f.0 refl)
  steps_at o t c stages.FreeGroup f at s = absurd (f refl)
  steps_at o t c stages.FreeChild f at s = absurd (f.0 refl)
  steps_at o t c stages.Finish f at s = absurd s
  steps_at o t c stages.Handing f at s = absurd s

-- the step that a part that fits has made
pub climbs_on : (o : World) (old new : HeldPart) (k : Walk) → PartFits old.box
    → old.box.own.walk ≡ Some k → k.kind ≡ kinds.Activate → old.box.looked ≡ no_looks
    → HasStepped o true old new → HasClimbed old new
climbs_on o old new k fits has is empty made =
    let walk = fits.walk k has in
    let t = old.box.opening.tree in
    steps_at old new k has empty is walk.low o t old.box.cpu k.stage
    (stands old.box.opening old.box k walk is) refl (made k has)
