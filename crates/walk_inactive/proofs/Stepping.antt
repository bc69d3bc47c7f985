-- each step of a walk that tells keeps what it has looked at by its stage
use Rattle.std.proofs.Common.{◌≡◌, ◌≢◌, ℕ, zero, suc, Bool, true, false, true≢false}
use Rattle.std.proofs.Common.{Option, Some, refl, sym, ap, ◌∙◌, subst, List}
use Rattle.event_queue.specs.Word.{slot_of}
use Rattle.walk_rules.specs.declared.walk.Walk.{Walk}
use Rattle.walk_rules.specs.declared.walk.Stage.{Stage}
use Rattle.walk_rules.specs.declared.walk.Stage.TheVariants as stages
use Rattle.walk_rules.specs.Hierarchy.{HasGroup, at_top}
use Rattle.walk_rules.specs.Standing.{FitsStage, FlagsAt, Tells}
use Rattle.walk_rules.specs.Stages.{at_stage, child_next, first_next, first_sight, forget}
use Rattle.walk_rules.specs.Stages.{free_group_next}
use Rattle.walk_rules.specs.Stages.{freed_next, read_next, scan_next, see_child_next}
use Rattle.walk_rules.specs.Stages.{see_group_next, store_next, swap_next}
use Rattle.core_world.specs.World.{World}
use Rattle.shared_words.specs.Exchanges.{shows_migrator}
use Rattle.shared_cpus.specs.shared_rule.declared.parts.BoxView.{BoxView}
use Rattle.shared_cpus.specs.shared_rule.declared.parts.Look.{Look}
use Rattle.shared_cpus.specs.shared_rule.declared.parts.Looked.{Looked}
use Rattle.shared_cpus.specs.shared_rule.Plays.{bound_walk, by_walk, child_freed_walk}
use Rattle.shared_cpus.specs.shared_rule.Plays.{child_locked_walk}
use Rattle.shared_cpus.specs.shared_rule.Plays.{child_read_walk, child_sight, group_freed_walk}
use Rattle.shared_cpus.specs.shared_rule.Plays.{taken_lock}
use Rattle.shared_cpus.specs.shared_rule.Plays.{locked_walk, own_read_walk, read_walk, reading}
use Rattle.shared_cpus.specs.shared_rule.Plays.{scan_sight}
use Rattle.shared_cpus.specs.shared_rule.Plays.{WalkFits, group_sight, slot_number, stored_box}
use Rattle.shared_cpus.specs.shared_rule.Plays.{stored_walk}
use Rattle.shared_cpus.specs.shared_rule.Plays.{swap_box, top_sight}
use Rattle.shared_cpus.specs.shared_rule.Parts.{HeldPart}
use Rattle.walk_inactive.specs.Frames.{IsFramed, box_with}
use Rattle.shared_walks.specs.Steps.{group_seen, on_part, top_seen}
use Rattle.shared_walks.specs.Walks.{HasReadChild, StepOf, is_under_way}
use Rattle.walk_inactive.proofs.Framing.{step_framed}
use Rattle.shared_walks.proofs.Standing.{finishes, has_group, stands}
use Rattle.walk_inactive.specs.Ways.{HasAdvanced, HasPassedLevels, HasSetOut, LooksAt}
use Rattle.walk_inactive.specs.Ways.{WalkSoFar}
use Rattle.walk_inactive.proofs.Looking.{at_after_sight, at_first_lock, at_first_sight, at_scan}
use Rattle.walk_inactive.proofs.Looking.{child_seen_at, freed_at, group_freed_at, read_at, seen_at}
use Rattle.walk_inactive.proofs.Looking.{slot_read, stored_at}

-- the walk of a box has looked at what its stage says
pub record Looking (b : BoxView) : Type 0 where
  pub walk : Walk
  pub has : b.own.walk ≡ Some walk
  pub looks : LooksAt b.opening b.cpu walk b.looked.seen walk.stage

-- the box of a part that has changed so
onto : (f : BoxView → BoxView) (old new : HeldPart) → new ≡ on_part f old → Looking (f old.box)
    → Looking new.box
onto f old new is looking = subst (λ z. Looking z.box) (sym is) looking

-- the walk of a box goes on as i
goes_as : (b : BoxView) (g : BoxView → Walk → Option Walk) (k i : Walk) → b.own.walk ≡ Some k
    → g b k ≡ Some i → bound_walk (g b) b.own.walk ≡ Some i
goes_as b g k i has next = ap (bound_walk (g b)) has ∙ next

-- a walk that goes on in its box
went : (b : BoxView) (g : BoxView → Walk → Option Walk) (k i : Walk) → b.own.walk ≡ Some k
    → g b k ≡ Some i → LooksAt b.opening b.cpu i b.looked.seen i.stage → Looking (by_walk g b)
went b g k i has next looks = record { walk = i; has = goes_as b g k i has next; looks = looks }

module _ (k : Walk) (old new : HeldPart) (has : old.box.own.walk ≡ Some k) where
  abbrev b : BoxView
  b = old.box

  abbrev Passed : Type 0
  Passed = HasPassedLevels b.opening b.cpu k.level b.looked.seen k.first

  read_child : (level : ℕ) → Passed → HasReadChild level old new → Looking new.box
  read_child zero looks e =
      onto (by_walk own_read_walk) old new e
      (went b own_read_walk k (child_next false k) has refl looks)
  read_child (suc l) looks e =
      onto (by_walk (child_read_walk e.0)) old new e.1
      (went b (child_read_walk e.0) k (child_next (shows_migrator e.0) k) has refl looks)

  swapped : (made : Bool) (found : ℕ) → Passed → new ≡ on_part (swap_box made found) old
      → Looking new.box
  swapped true found looks e =
      onto (swap_box true found) old new e
      (went b (λ x j. Some (swap_next true j)) k (swap_next true k) has refl
      (at_first_lock b.opening b.cpu (swap_next true k) b.looked.seen k.level looks))
  swapped false found looks e =
      onto (swap_box false found) old new e (record {
        walk = forget (read_next k);
        has = goes_as b read_walk k (forget (read_next k)) has refl;
        looks = looks;
      })

  -- EACH STEP KEEPS IT
  pub step_looks : (at : Stage) → k.stage ≡ at → WalkFits b.opening b k
      → HasGroup b.opening.tree b.cpu → Tells k.kind → is_under_way at ≡ true
      → LooksAt b.opening b.cpu k b.looked.seen at → StepOf b.opening k at true old new
      → Looking new.box
  step_looks stages.Own is fits group tells under looks e =
      absurd (tells (subst (FitsStage b.opening.tree b.cpu k.kind k.level) is (fits.fits group)).0)
  step_looks stages.Up is fits group tells under looks e =
      absurd (tells (subst (FitsStage b.opening.tree b.cpu k.kind k.level) is (fits.fits group)))
  step_looks (stages.Mark more) is fits group tells under looks e =
      absurd (tells (subst (FitsStage b.opening.tree b.cpu k.kind k.level) is (fits.fits group)).0)
  step_looks stages.Read is fits group tells under looks e =
      onto (λ x. reading e.1.0 (by_walk read_walk x)) old new e.1.1 (record {
        walk = forget (read_next k);
        has = goes_as b read_walk k (forget (read_next k)) has refl;
        looks = looks;
      })
  step_looks stages.Child is fits group tells under looks e = read_child k.level looks e.1
  step_looks stages.Swap is fits group tells under looks e =
      swapped e.1 e.2.found looks e.2.box
  step_looks stages.LockChild is fits group tells under looks e =
      let next = at_stage k stages.LockGroup in
      onto (taken_lock child_locked_walk) old new e (record {
        walk = next;
        has = goes_as b child_locked_walk k next has refl;
        looks = looks;
      })
  step_looks stages.LockGroup is fits group tells under looks e =
      let next = at_stage k (first_sight k.level) in
      onto (taken_lock locked_walk) old new e (record {
        walk = next;
        has = goes_as b locked_walk k next has refl;
        looks = at_first_sight b.opening b.cpu next b.looked.seen k.level looks;
      })
  step_looks stages.SeeChild is fits group tells under looks e =
      let here = subst (FitsStage b.opening.tree b.cpu k.kind k.level) is (fits.fits group) in
      onto (by_walk (child_sight e.1.0)) old new e.1.1
      (went b (child_sight e.1.0) k (see_child_next (shows_migrator e.1.0) k) has refl
      (child_seen_at b.opening b.cpu k b.looked.seen (shows_migrator e.1.0) here.1
      (stands b.opening b k stages.SeeChild fits is refl) looks))
  step_looks stages.SeeGroup is fits group tells under looks e =
      let next = see_group_next (shows_migrator e.1.0) (at_top b.opening.tree b.cpu k.level) k in
      onto (group_seen b.opening k e.1.0) old new e.1.1 (record {
        walk = next;
        has = goes_as b (group_sight e.1.0) k next has refl;
        looks =
            at_after_sight b.opening b.cpu next _ k.level
            (seen_at b.opening b.cpu k.level e.1.0 k.first b.looked.seen looks);
      })
  step_looks (stages.Scan n) is fits group tells under looks e =
      let next = scan_next (slot_of e.1.0) (slot_number k.stage) k in
      onto (by_walk (scan_sight e.1.0)) old new e.1.1
      (went b (scan_sight e.1.0) k next has refl
      (at_scan b.opening b.cpu next b.looked.seen _ _ looks))
  step_looks stages.Store is fits group tells under looks e =
      let flags = subst (FlagsAt (at_top b.opening.tree b.cpu k.level) k.on k.over) is
      (fits.flags group) in
      let next = store_next (at_top b.opening.tree b.cpu k.level) k in
      onto stored_box old new e.1 (record {
        walk = next;
        has = goes_as b stored_walk k next has refl;
        looks = stored_at b.opening b.cpu k b.looked.seen flags looks;
      })
  step_looks (stages.First n) is fits group tells under looks e =
      let flags = subst (FlagsAt (at_top b.opening.tree b.cpu k.level) k.on k.over) is
      (fits.flags group) in
      let next = first_next (slot_of e.1.0) n k in
      let number : slot_number k.stage ≡ n = ap slot_number is in
      onto (top_seen b.opening k n e.1.0) old new e.1.1 (record {
        walk = next;
        has = goes_as b (top_sight e.1.0) k next has (ap (λ m. Some (first_next (slot_of e.1.0) m k)) number);
        looks =
            read_at b.opening b.cpu next _ n flags.1
            (slot_read b.opening b.cpu k.level n e.1.0 k.first k.kind b.looked.seen looks);
      })
  step_looks stages.FreeGroup is fits group tells under looks e =
      onto (by_walk group_freed_walk) old new e.1
      (went b group_freed_walk k (free_group_next k.level k) has refl
      (group_freed_at b.opening b.cpu k b.looked.seen k.level tells looks))
  step_looks stages.FreeChild is fits group tells under looks e =
      onto (by_walk child_freed_walk) old new e.1
      (went b child_freed_walk k (freed_next k.over k) has refl
      (freed_at b.opening b.cpu k b.looked.seen tells looks))
  step_looks stages.Finish is fits group tells under looks e = absurd e
  step_looks stages.Handing is fits group tells under looks e = absurd e

-- a walk under way doesn't finish
goes_on : (at : Stage) → is_under_way at ≡ true → finishes at ≡ false
goes_on stages.Own under = refl
goes_on stages.Up under = refl
goes_on (stages.Mark more) under = refl
goes_on stages.Read under = refl
goes_on stages.Child under = refl
goes_on stages.Swap under = refl
goes_on stages.LockChild under = refl
goes_on stages.LockGroup under = refl
goes_on stages.SeeChild under = refl
goes_on stages.SeeGroup under = refl
goes_on (stages.Scan k) under = refl
goes_on stages.Store under = refl
goes_on (stages.First k) under = refl
goes_on stages.FreeGroup under = refl
goes_on stages.FreeChild under = refl
goes_on stages.Finish under = absurd (true≢false (sym under))
goes_on stages.Handing under = refl

-- as a walk sets out
pub set_out : (start : HeldPart) (k : Walk) → HasSetOut start k → WalkSoFar start start k
set_out start k out = record {
  walk = k;
  has = out.walk;
  rest = refl;
  errand = record { kind = refl; pin = refl; next = refl };
  looks = λ group.
      subst (λ (z : Looked). LooksAt start.box.opening start.box.cpu k z.seen k.stage)
      (sym out.none) (out.looks group);
  unmoved = λ none. refl;
}

-- the same at the same place of the same run
elsewhere : (o p : World) (c d : ℕ) (k : Walk) (looked : List Look) (at : Stage) → o ≡ p → c ≡ d
    → LooksAt o c k looked at → LooksAt p d k looked at
elsewhere o p c d k looked at run cpu looks =
    subst (λ z. LooksAt z d k looked at) run (subst (λ z. LooksAt o z k looked at) cpu looks)

-- a group on the path of the same CPU of the same run
same_group : (o p : World) (c d : ℕ) → o ≡ p → c ≡ d → HasGroup o.tree c → HasGroup p.tree d
same_group o p c d run cpu group =
    subst (λ (z : World). HasGroup z.tree d) run (subst (HasGroup o.tree) cpu group)

-- WHAT A STEP KEEPS
pub keeps : (start old new : HeldPart) (k : Walk) → HasSetOut start k → WalkSoFar start old k
    → HasAdvanced true old new → WalkSoFar start new k
keeps start old new k out so_far advanced = record {
  walk = after.walk;
  has = after.has;
  rest =
      framed.rest
      ∙ (λ i. on_part (λ b. box_with b new.box.own.walk new.box.leaf new.box.read new.box.looked)
      (so_far.rest i));
  errand =
      let more = framed.errand w after.walk so_far.has after.has in
      record {
        kind = more.kind ∙ so_far.errand.kind;
        pin = more.pin ∙ so_far.errand.pin;
        next = more.next ∙ so_far.errand.next;
      };
  looks = λ g.
      elsewhere new.box.opening start.box.opening new.box.cpu start.box.cpu after.walk
      new.box.looked.seen after.walk.stage (new_run ∙ run) (new_cpu ∙ cpu) after.looks;
  unmoved = λ none.
      absurd (none (same_group old.box.opening start.box.opening old.box.cpu start.box.cpu run cpu
      group));
}
  where
    w : Walk
    w = so_far.walk

    step : (is_under_way w.stage ≡ true) × StepOf old.box.opening w w.stage true old new
    step = advanced.went w so_far.has

    framed : IsFramed old new
    framed = step_framed old.box.opening w w.stage true old new step.1

    -- opening and CPU are those with which the walk set out
    run : old.box.opening ≡ start.box.opening
    run = ap (λ z. z.box.opening) so_far.rest

    cpu : old.box.cpu ≡ start.box.cpu
    cpu = ap (λ z. z.box.cpu) so_far.rest

    new_run : new.box.opening ≡ old.box.opening
    new_run = ap (λ z. z.box.opening) framed.rest

    new_cpu : new.box.cpu ≡ old.box.cpu
    new_cpu = ap (λ z. z.box.cpu) framed.rest

    group : HasGroup old.box.opening.tree old.box.cpu
    group =
        has_group old.box.opening old.box w w.stage (advanced.fits.walk w so_far.has) refl
        (goes_on w.stage step.0)

    tells : Tells w.kind
    tells = subst Tells (sym so_far.errand.kind) out.tells

    after : Looking new.box
    after =
        step_looks w old new so_far.has w.stage refl (advanced.fits.walk w so_far.has) group tells
        step.0
        (elsewhere start.box.opening old.box.opening start.box.cpu old.box.cpu w old.box.looked.seen
        w.stage (sym run) (sym cpu)
        (so_far.looks (same_group old.box.opening start.box.opening old.box.cpu start.box.cpu run
        cpu group))) step.1
