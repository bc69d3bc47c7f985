-- a walk that tells has come to its end
use Rattle.std.proofs.Common.{◌≡◌, ◌≢◌, ℕ, ◌==◌, Bool, true, false, true≢false, Option, Some, None}
use Rattle.std.proofs.Common.{refl, sym, ap, ◌∙◌, subst, eqb-true, eq-eqb}
use Rattle.std.proofs.lemmas.Option.{none-some, same_Some}
use Rattle.std.specs.Prelude.{if◌then◌else◌}
use Rattle.tm_base.specs.declared.names.TheConstants.{NEVER}
use Rattle.event_queue.specs.declared.event.Event.{Event}
use Rattle.tree_plan.specs.Paths.{group_at_of}
use Rattle.walk_rules.specs.declared.walk.Walk.{Walk}
use Rattle.walk_rules.specs.declared.walk.Stage.{Stage}
use Rattle.walk_rules.specs.declared.walk.Stage.TheVariants as stages
use Rattle.walk_rules.specs.Hierarchy.{HasGroup}
use Rattle.walk_rules.specs.Standing.{FitsStage}
use Rattle.walk_rules.specs.Stages.{leaf_event}
use Rattle.shared_cpus.specs.core_facts.Told.{SaysOf}
use Rattle.core_world.specs.World.{World}
use Rattle.shared_cpus.specs.shared_rule.declared.parts.BoxView.{BoxView}
use Rattle.shared_cpus.specs.shared_rule.declared.parts.Looked.{Looked}
use Rattle.shared_cpus.specs.shared_rule.Plays.{PartFits, WalkFits}
use Rattle.shared_cpus.specs.shared_rule.Parts.{HeldPart}
use Rattle.shared_walks.specs.Walks.{HasStepped, StepOf, is_under_way}
use Rattle.walk_inactive.specs.Ends.{box_leaf_of, told_leaf}
use Rattle.walk_inactive.specs.Looks.{FindsFirst, HasWalkLooked}
use Rattle.walk_inactive.specs.Ways.{HasAdvanced, HasComeToEnd, HasSetOut, LooksAt, WalkSoFar}

-- a walk that isn't under way, and doesn't hand on, finishes
finishes_at : (at : Stage) → is_under_way at ≡ false → at ≢ stages.Handing → at ≡ stages.Finish
finishes_at stages.Own off other = absurd (true≢false off)
finishes_at stages.Up off other = absurd (true≢false off)
finishes_at (stages.Mark more) off other = absurd (true≢false off)
finishes_at stages.Read off other = absurd (true≢false off)
finishes_at stages.Child off other = absurd (true≢false off)
finishes_at stages.Swap off other = absurd (true≢false off)
finishes_at stages.LockChild off other = absurd (true≢false off)
finishes_at stages.LockGroup off other = absurd (true≢false off)
finishes_at stages.SeeChild off other = absurd (true≢false off)
finishes_at stages.SeeGroup off other = absurd (true≢false off)
finishes_at (stages.Scan k) off other = absurd (true≢false off)
finishes_at stages.Store off other = absurd (true≢false off)
finishes_at (stages.First k) off other = absurd (true≢false off)
finishes_at stages.FreeGroup off other = absurd (true≢false off)
finishes_at stages.FreeChild off other = absurd (true≢false off)
finishes_at stages.Finish off other = refl
finishes_at stages.Handing off other = absurd (other refl)

-- in a run no walk is that of a CPU that goes offline
ends : (o : World) (b : BoxView) (k : Walk) → WalkFits o b k → is_under_way k.stage ≡ false
    → k.stage ≡ stages.Finish
ends o b k fits off = by_leaf (group_at_of o.tree b.cpu 0) refl
  where
    by_leaf : (m : Option ℕ) → group_at_of o.tree b.cpu 0 ≡ m → k.stage ≡ stages.Finish
    by_leaf None is = (fits.alone (λ g. none-some g.0 (sym is ∙ g.1))).finishing
    by_leaf (Some g) is =
        finishes_at k.stage off
        (λ handing. fits.staying (subst (FitsStage o.tree b.cpu k.kind k.level) handing
        (fits.fits (g, is))))

-- a slot that says a time is the event of that time
pub told_is : (c time : ℕ) (slot : Option Event) → SaysOf c time slot → slot ≡ leaf_event c time
told_is c time slot says = by_time (time == NEVER) refl
  where
    event : Event
    event = record { expiry = time; cpu = record { 0 = c }; ignored = false }

    by_time : (never : Bool) → (time == NEVER) ≡ never
        → slot ≡ (if never then None else Some event)
    by_time true is = says.none (eqb-true time NEVER is)
    by_time false is =
        let at = says.some (λ z. true≢false (sym (eq-eqb time NEVER z) ∙ is)) in
        at.1 ∙ ap Some (λ i. record {
          expiry = at.2.expiry i;
          cpu = record { 0 = at.2.cpu i };
          ignored = at.2.counts i;
        })

-- THE END of the way
pub comes : (start now new : HeldPart) (k : Walk) → HasSetOut start k → WalkSoFar start now k
    → HasAdvanced false now new → HasComeToEnd start new k
comes start now new k out so_far advanced = subst (λ z. HasComeToEnd start z k) (sym stop.1) (record {
  walk = w;
  has = so_far.has;
  rest = so_far.rest;
  errand = so_far.errand;
  stage = end;
  found = found (box_leaf_of start.box) refl;
  leaf = leaf (box_leaf_of start.box) refl;
})
  where
    w : Walk
    w = so_far.walk

    stop : (is_under_way w.stage ≡ false) × (new ≡ now)
    stop = advanced.went w so_far.has

    fits : WalkFits now.box.opening now.box w
    fits = advanced.fits.walk w so_far.has

    end : w.stage ≡ stages.Finish
    end = ends now.box.opening now.box w fits stop.0

    run : now.box.opening ≡ start.box.opening
    run = ap (λ z. z.box.opening) so_far.rest

    cpu : now.box.cpu ≡ start.box.cpu
    cpu = ap (λ z. z.box.cpu) so_far.rest

    path : (m : Option ℕ) → box_leaf_of start.box ≡ m → box_leaf_of now.box ≡ m
    path m is = (λ i. group_at_of (run i).tree (cpu i) 0) ∙ is

    no_group : box_leaf_of start.box ≡ None → HasGroup start.box.opening.tree start.box.cpu → ⊥
    no_group is g = none-some g.0 (sym is ∙ g.1)

    found : (m : Option ℕ) → box_leaf_of start.box ≡ m
        → FindsFirst m start.box.opening start.box.cpu k.kind k.next now.box.looked.seen w.first
    found None is =
        let still = so_far.unmoved (no_group is) in (
          ap (λ z. z.box.looked.seen) still ∙ ap (λ (z : Looked). z.seen) out.none,
          (fits.alone (λ g. none-some g.0 (sym (path None is) ∙ g.1))).own ∙ so_far.errand.next,
        )
    found (Some g) is =
        subst (λ z. HasWalkLooked start.box.opening start.box.cpu z now.box.looked.seen w.first)
        so_far.errand.kind
        (subst (LooksAt start.box.opening start.box.cpu w now.box.looked.seen) end
        (so_far.looks (g, is)))

    leaf : (m : Option ℕ) → box_leaf_of start.box ≡ m
        → now.box.leaf ≡ told_leaf m start.box.cpu k.next start.box.leaf
    leaf None is = ap (λ z. z.box.leaf) (so_far.unmoved (no_group is))
    leaf (Some g) is =
        told_is now.box.cpu w.next now.box.leaf (fits.told end g (path (Some g) is))
        ∙ (λ i. leaf_event (cpu i) (so_far.errand.next i))

-- a walk under way has made its step
pub advances : (o : World) (old new : HeldPart) (k : Walk) → PartFits old.box
    → old.box.opening ≡ o → old.box.own.walk ≡ Some k → is_under_way k.stage ≡ true
    → HasStepped o true old new → HasAdvanced true old new
advances o old new k fits run has under step = record {
  fits = fits;
  went = λ j is. (
    subst (λ (z : Walk). is_under_way z.stage ≡ true) (same_Some k j (sym has ∙ is)) under,
    subst (λ z. StepOf z j j.stage true old new) (sym run) (step j is),
  );
}

-- or it has come to its end, or there is none
pub stops : (part : HeldPart) (m : Option Walk) → PartFits part.box → part.box.own.walk ≡ m
    → ((k : Walk) → m ≡ Some k → is_under_way k.stage ≡ false) → HasAdvanced false part part
stops part m fits has end = record {
  fits = fits;
  went = λ j is. (end j (sym has ∙ is), refl);
}
