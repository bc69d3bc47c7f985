-- every step keeps what is said of one CPU alone
use Rattle.std.proofs.Common.{◌≡◌, ◌⊎◌, inl, inr, ℕ, zero, suc, ◌+◌, ◌<◌, Bool, true, false, true≢false, cond, length, get_or, set, Option, Some, None, refl, sym, ap, ◌∙◌, subst, arith, eq-eqb}
use Rattle.std.specs.Prelude.{◌==◌, ◌&&◌, not, option_map, unwrap_or}
use Rattle.std.proofs.lemmas.Bool.{cases_eq}
use Rattle.std.proofs.lemmas.List.{get_or-set_same, get_or-set_other}
use Rattle.std.proofs.lemmas.Option.{none-some, same_Some}
use Rattle.std.proofs.Math.ListN.{length-set}
use Rattle.tm_base.specs.declared.names.TheConstants.{NEVER}
use Rattle.tm_base.specs.declared.names.Class.{Class}
use Rattle.tm_base.specs.declared.names.CpuId.{CpuId}
use Rattle.wheel_core.specs.declared.item.Item.{Item}
use Rattle.cpu_bases.specs.CpuBases.{CpuBases, events_of}
use Rattle.tree_plan.specs.Shape.{Shape}
use Rattle.walk_rules.specs.declared.walk.Walk.{Walk}
use Rattle.walk_rules.specs.declared.walk.WalkKind.{WalkKind}
use Rattle.walk_rules.specs.declared.walk.WalkKind.TheVariants as kinds
use Rattle.walk_rules.specs.declared.walk.Stage.{Stage}
use Rattle.walk_rules.specs.declared.walk.Stage.TheVariants as stages
use Rattle.walk_rules.specs.Hierarchy.{HasGroup, at_top}
use Rattle.walk_rules.specs.Scene.{Group}
use Rattle.walk_rules.specs.Stages.{after_sight, at_stage, first_lock, first_sight, first_stage, forget, free_group_next, freed_next, is_remote, mark_next, see_child_next, swap_next, up_next}
use Rattle.walk_rules.specs.Standing.{IsWalker}
use Rattle.core_world.specs.declared.step.Step.TheVariants as steps
use Rattle.core_world.specs.Enabled.{MayGoOn}
use Rattle.core_world.specs.Steps.{begins_with, child_on, finished, first_moved, giver, marker_of, moved_with, swapped, taker, walk_made, walked, with_bases, with_walk}
use Rattle.walk_rules.specs.Stages.{begun_where}
use Rattle.core_world.specs.Wakeups.{IsAtRest, WalkTimes, next_for}
use Rattle.core_world.specs.World.{CpuRecord, World, cpu_of, group_of, is_active, moved, no_cpu, own, reads_at, scene_of, stale_walk}
use Rattle.core_world.proofs.Moves.{beside, cpu_else, cpu_same}
use Rattle.core_laws.specs.Walks.Fit.{WalksFit}
use Rattle.core_laws.specs.Cpus.Layer.{CpuFits, CpusFit, CpusStayFit}

fits_of : (w : World) → CpusFit w → (c : ℕ) → CpuFits w.tree c (cpu_of w c)
fits_of w f c = record {
  marked = f.marked c;
  found = f.found c;
  at_rest = f.at_rest c;
  times = f.times c;
  no_wakeup = f.no_wakeup c;
  remote = f.remote c;
}

all_fit : (w : World) → ((c : ℕ) → CpuFits w.tree c (cpu_of w c)) → CpusFit w
all_fit w f = record {
  marked = λ c. (f c).marked;
  found = λ c. (f c).found;
  at_rest = λ c. (f c).at_rest;
  times = λ c. (f c).times;
  no_wakeup = λ c. (f c).no_wakeup;
  remote = λ c. (f c).remote;
}

-- a stale walk is the same in all but its reading
same_walk : (b : Bool) (k : Walk) → forget (cond b (record k { fresh = false }) k) ≡ forget k
same_walk true k = refl
same_walk false k = refl

unstale : (t : Shape) (g d : ℕ) (m : Option Walk) (k : Walk) → option_map (stale_walk t g d) m ≡ Some k → (j : Walk) × (m ≡ Some j) × (forget k ≡ forget j)
unstale t g d None k e = absurd (none-some k e)
unstale t g d (Some j) k e = (j, refl, ap forget (sym (same_Some _ _ e)) ∙ same_walk (reads_at t g d j) j)

beside_fits : (t : Shape) (r : Bool) (g d : ℕ) (y : CpuRecord) → CpuFits t d y → CpuFits t d (beside t r g d y)
beside_fits t false g d y f = f
beside_fits t true g d y f = record {
  marked = f.marked;
  found = λ k is stage. (let j = unstale t g d y.walk k is in
      λ never. f.found j.0 j.1 (ap (λ (z : Walk). z.stage) (sym j.2) ∙ stage) (ap (λ (z : Walk). z.first) (sym j.2) ∙ never));
  at_rest = λ off. (let p = f.at_rest off in record { idle = p.idle; outside = p.outside });
  times = λ k is. (let j = unstale t g d y.walk k is in
      let p = f.times j.0 j.1 in
      record { pin = ap (λ (z : Walk). z.pin) j.2 ∙ p.pin; next = ap (λ (z : Walk). z.next) j.2 ∙ (p.next ∙ ap (λ (z : Walk). next_for z.kind (events_of y.bases).next) (sym j.2)) });
  no_wakeup = f.no_wakeup;
  remote = λ k by is kind. (let j = unstale t g d y.walk k is in f.remote j.0 by j.1 (ap (λ (z : Walk). z.kind) (sym j.2) ∙ kind));
}

-- A STEP OF THE GENERAL FORM keeps it where its CPU fits
moved_fit : (w : World) (g : ℕ) (x : Group) (c : ℕ) (y : CpuRecord) (r : Bool) → c < length w.cpus → CpusFit w → CpuFits w.tree c y → CpusFit (moved w g x c y r)
moved_fit w g x c y r hc f new = all_fit (moved w g x c y r) (λ d. elim (cases_eq d c) [
  | inl same ↦ subst (λ n. CpuFits w.tree n (cpu_of (moved w g x c y r) n)) (sym same) (subst (CpuFits w.tree c) (sym (cpu_same w g x c y r hc)) new)
  | inr ne ↦ subst (CpuFits w.tree d) (sym (cpu_else w g x c y r d ne)) (beside_fits w.tree r g d (cpu_of w d) (fits_of w f d))
])

-- a CPU without a walk
free_fits : (t : Shape) (c : ℕ) (y : CpuRecord) → y.walk ≡ None → ((b : ℕ) → y.mark ≡ Some b → HasGroup t c) → (y.online ≡ false → IsAtRest y) → ((y.online ≡ false) ⊎ (is_active y ≡ true) → y.wakeup ≡ NEVER) → CpuFits t c y
free_fits t c y free marked rest wakeup = record {
  marked = marked;
  found = λ k is. absurd (none-some k (sym free ∙ is));
  at_rest = rest;
  times = λ k is. absurd (none-some k (sym free ∙ is));
  no_wakeup = wakeup;
  remote = λ k by is. absurd (none-some k (sym free ∙ is));
}

abbrev is_handing : Stage → Bool
is_handing stages.Own = false
is_handing stages.Up = false
is_handing (stages.Mark more) = false
is_handing stages.Read = false
is_handing stages.Child = false
is_handing stages.Swap = false
is_handing stages.LockChild = false
is_handing stages.LockGroup = false
is_handing stages.SeeChild = false
is_handing stages.SeeGroup = false
is_handing (stages.Scan k) = false
is_handing stages.Store = false
is_handing (stages.First k) = false
is_handing stages.FreeGroup = false
is_handing stages.FreeChild = false
is_handing stages.Finish = false
is_handing stages.Handing = true

cond_handing : (q : Bool) (a b : Stage) → is_handing a ≡ false → is_handing b ≡ false → is_handing (cond q a b) ≡ false
cond_handing true a b ha hb = ha
cond_handing false a b ha hb = hb

lock_handing : (l : ℕ) → is_handing (first_lock l) ≡ false
lock_handing zero = refl
lock_handing (suc l) = refl

sight_handing : (l : ℕ) → is_handing (first_sight l) ≡ false
sight_handing zero = refl
sight_handing (suc l) = refl

after_handing : (l : ℕ) → is_handing (after_sight l) ≡ false
after_handing zero = refl
after_handing (suc l) = refl

first_handing : (kind : WalkKind) → is_handing (first_stage kind) ≡ false
first_handing kinds.Activate = refl
first_handing kinds.Deactivate = refl
first_handing kinds.Offline = refl
first_handing kinds.Reeval = refl
first_handing (kinds.Remote by) = refl

-- what a walk that goes on keeps
record GoesOn (k j : Walk) : Type 0 where
  kind : j.kind ≡ k.kind
  pin : j.pin ≡ k.pin
  next : j.next ≡ k.next
  stage : is_handing j.stage ≡ false

freed_on : (over : Bool) (k : Walk) → GoesOn k (freed_next over k)
freed_on true k = record { kind = refl; pin = refl; next = refl; stage = refl }
freed_on false k = record { kind = refl; pin = refl; next = refl; stage = first_handing k.kind }

free_on : (l : ℕ) (k : Walk) → GoesOn k (free_group_next l k)
free_on zero k = freed_on k.over k
free_on (suc l) k = record { kind = refl; pin = refl; next = refl; stage = refl }

see_child_on : (on : Bool) (k : Walk) → GoesOn k (see_child_next on k)
see_child_on true k = record { kind = refl; pin = refl; next = refl; stage = refl }
see_child_on false k = record { kind = refl; pin = refl; next = refl; stage = refl }

up_on : (top more : Bool) (k j : Walk) → up_next top more k ≡ Some j → GoesOn k j
up_on true more k j e = absurd (none-some j e)
up_on false more k j e = subst (GoesOn k) (same_Some _ _ e) (record { kind = refl; pin = refl; next = refl; stage = refl })

mark_on : (more : Bool) (k j : Walk) → mark_next more k ≡ Some j → GoesOn k j
mark_on false k j e = absurd (none-some j e)
mark_on true k j e = subst (GoesOn k) (same_Some _ _ e) (record { kind = refl; pin = refl; next = refl; stage = refl })

on_fits : (t : Shape) (c : ℕ) (y : CpuRecord) (k : Walk) (m : Option Walk) → CpuFits t c y → y.walk ≡ Some k → ((j : Walk) → m ≡ Some j → GoesOn k j) → CpuFits t c (with_walk y m)
on_fits t c y k m f is on = record {
  marked = f.marked;
  found = λ j at stage. absurd (true≢false (sym (ap is_handing stage) ∙ (on j at).stage));
  at_rest = λ off. (let p = f.at_rest off in record { idle = p.idle; outside = p.outside });
  times = λ j at. (let p = f.times k is in let q = on j at in
      record { pin = q.pin ∙ p.pin; next = q.next ∙ (p.next ∙ ap (λ z. next_for z (events_of y.bases).next) (sym q.kind)) });
  no_wakeup = f.no_wakeup;
  remote = λ j by at kind. f.remote k by is (sym (on j at).kind ∙ kind);
}

-- what begins
record Begun (kind : WalkKind) (pin next : ℕ) (k : Walk) : Type 0 where
  kind_is : k.kind ≡ kind
  pin_is : k.pin ≡ pin
  next_is : k.next ≡ next
  stage_is : is_handing k.stage ≡ false

begun_as : (q : Bool) (kind : WalkKind) (stage : Stage) (pin next : ℕ) (k : Walk) → is_handing stage ≡ false → begun_where q kind stage pin next ≡ Some k → Begun kind pin next k
begun_as true kind stage pin next k h e = subst (Begun kind pin next) (same_Some _ _ e) (record { kind_is = refl; pin_is = refl; next_is = refl; stage_is = h })
begun_as false kinds.Activate stage pin next k h e = absurd (none-some k e)
begun_as false kinds.Deactivate stage pin next k h e = subst (Begun kinds.Deactivate pin next) (same_Some _ _ e) (record { kind_is = refl; pin_is = refl; next_is = refl; stage_is = refl })
begun_as false kinds.Offline stage pin next k h e = subst (Begun kinds.Offline pin next) (same_Some _ _ e) (record { kind_is = refl; pin_is = refl; next_is = refl; stage_is = refl })
begun_as false kinds.Reeval stage pin next k h e = subst (Begun kinds.Reeval pin next) (same_Some _ _ e) (record { kind_is = refl; pin_is = refl; next_is = refl; stage_is = refl })
begun_as false (kinds.Remote by) stage pin next k h e = subst (Begun (kinds.Remote by) pin next) (same_Some _ _ e) (record { kind_is = refl; pin_is = refl; next_is = refl; stage_is = refl })

begun_fits : (t : Shape) (c : ℕ) (y : CpuRecord) (q : Bool) (kind : WalkKind) (stage : Stage) (next : ℕ) → y.walk ≡ begun_where q kind stage (events_of y.bases).pin next → is_handing stage ≡ false → next ≡ next_for kind (events_of y.bases).next
    → ((b : ℕ) → y.mark ≡ Some b → HasGroup t c) → (y.online ≡ false → IsAtRest y) → ((y.online ≡ false) ⊎ (is_active y ≡ true) → y.wakeup ≡ NEVER) → ((by : CpuId) → kind ≡ kinds.Remote by → y.mark ≡ Some by.0) → CpuFits t c y
begun_fits t c y q kind stage next begun h at marked rest wakeup remote = record {
  marked = marked;
  found = λ k is handing. (let p = begun_as q kind stage _ next k h (sym begun ∙ is) in absurd (true≢false (sym (ap is_handing handing) ∙ p.stage_is)));
  at_rest = rest;
  times = λ k is. (let p = begun_as q kind stage _ next k h (sym begun ∙ is) in
      record { pin = p.pin_is; next = p.next_is ∙ (at ∙ ap (λ z. next_for z (events_of y.bases).next) (sym p.kind_is)) });
  no_wakeup = wakeup;
  remote = λ k by is r. (let p = begun_as q kind stage _ next k h (sym begun ∙ is) in remote by (sym p.kind_is ∙ r));
}

either_off : (online : Bool) → online ≡ true → online ≡ false → ⊥
either_off online on off = true≢false (sym on ∙ off)

online_of : (online idle : Bool) → (online && not idle) ≡ true → online ≡ true
online_of true idle e = refl
online_of false idle e = absurd (true≢false (sym e))

and_false : (b : Bool) → (b && false) ≡ false
and_false true = refl
and_false false = refl

idle_not_active : (online idle : Bool) → idle ≡ true → (online && not idle) ≡ true → ⊥
idle_not_active online idle e h = true≢false (sym h ∙ (ap (λ z. online && not z) e ∙ and_false online))

-- STEPS OF WALKS
module _ (w : World) (c : ℕ) (k : Walk) (hc : c < length w.cpus) (walks : WalksFit w.tree (scene_of w)) (f : CpusFit w) (is : (cpu_of w c).walk ≡ Some k) where
  y : CpuRecord
  y = cpu_of w c

  fits : CpuFits w.tree c (cpu_of w c)
  fits = fits_of w f c

  walker : IsWalker k.kind (cpu_of w c).online (cpu_of w c).idle
  walker = walks.walkers c (forget k) (ap (option_map forget) is)

  goes : (g : ℕ) (x : Group) (m : Option Walk) (r : Bool) → ((j : Walk) → m ≡ Some j → GoesOn k j) → CpusFit (moved w g x c (with_walk (cpu_of w c) m) r)
  goes g x m r on = moved_fit w g x c (with_walk (cpu_of w c) m) r hc f (on_fits w.tree c (cpu_of w c) k m fits is on)

  goes_to : (g : ℕ) (x : Group) (j : Walk) (r : Bool) → GoesOn k j → CpusFit (moved w g x c (with_walk (cpu_of w c) (Some j)) r)
  goes_to g x j r on = goes g x (Some j) r (λ i e. subst (GoesOn k) (same_Some _ _ e) on)

  plain : (j : Walk) → j.kind ≡ k.kind → j.pin ≡ k.pin → j.next ≡ k.next → is_handing j.stage ≡ false → GoesOn k j
  plain j a b d e = record { kind = a; pin = b; next = d; stage = e }

  ends : CpusFit (own w c (with_walk (cpu_of w c) None))
  ends = goes 0 (group_of w 0) None false (λ j e. absurd (none-some j e))

  asleep : ((cpu_of w c).online ≡ true) × ((cpu_of w c).idle ≡ true) → (z : CpuRecord) → z.online ≡ (cpu_of w c).online → z.idle ≡ (cpu_of w c).idle → (z.online ≡ false) ⊎ (is_active z ≡ true) → ⊥
  asleep on z so si (inl off) = true≢false (sym on.0 ∙ (sym so ∙ off))
  asleep on z so si (inr act) = idle_not_active z.online z.idle (si ∙ on.1) act

  handing : (q : Bool) → (k.first == NEVER) ≡ q → k.kind ≡ kinds.Offline → CpuFits w.tree c (with_walk (cpu_of w c) (cond q None (Some (at_stage k stages.Handing))))
  handing true e kind = on_fits w.tree c (cpu_of w c) k None fits is (λ j at. absurd (none-some j at))
  handing false e kind = record {
    marked = fits.marked;
    found = λ j at stage never. true≢false (sym (eq-eqb k.first NEVER (ap (λ (z : Walk). z.first) (same_Some _ _ at) ∙ never)) ∙ e);
    at_rest = λ off. (let p = fits.at_rest off in record { idle = p.idle; outside = p.outside });
    times = λ j at. (let p = fits.times k is in let s = same_Some _ _ at in
        subst (WalkTimes (with_walk (cpu_of w c) (Some (at_stage k stages.Handing)))) s (record { pin = p.pin; next = p.next }));
    no_wakeup = fits.no_wakeup;
    remote = λ j by at r. fits.remote k by is (ap (λ (z : Walk). z.kind) (same_Some _ _ at) ∙ r);
  }

  finish : (kind : WalkKind) → k.kind ≡ kind → CpusFit (own w c (finished (cpu_of w c) k kind))
  finish kinds.Activate same = ends
  finish kinds.Deactivate same =
      let on = subst (λ z. IsWalker z (cpu_of w c).online (cpu_of w c).idle) same walker in
      moved_fit w 0 (group_of w 0) c (finished (cpu_of w c) k kinds.Deactivate) false hc f
      (free_fits w.tree c (finished (cpu_of w c) k kinds.Deactivate) refl fits.marked (λ off. absurd (either_off _ on.0 off)) (λ h. absurd (asleep on (finished (cpu_of w c) k kinds.Deactivate) refl refl h)))
  finish kinds.Offline same = moved_fit w 0 (group_of w 0) c (finished (cpu_of w c) k kinds.Offline) false hc f (handing (k.first == NEVER) refl same)
  finish kinds.Reeval same =
      let on = subst (λ z. IsWalker z (cpu_of w c).online (cpu_of w c).idle) same walker in
      moved_fit w 0 (group_of w 0) c (finished (cpu_of w c) k kinds.Reeval) false hc f
      (free_fits w.tree c (finished (cpu_of w c) k kinds.Reeval) refl fits.marked (λ off. absurd (either_off _ on.0 off)) (λ h. absurd (asleep on (finished (cpu_of w c) k kinds.Reeval) refl refl h)))
  finish (kinds.Remote by) same =
      let on = subst (λ z. IsWalker z (cpu_of w c).online (cpu_of w c).idle) same walker in
      moved_fit w 0 (group_of w 0) c (finished (cpu_of w c) k (kinds.Remote by)) false hc f
      (free_fits w.tree c (finished (cpu_of w c) k (kinds.Remote by)) refl (λ b e. absurd (none-some b e)) (λ off. absurd (either_off _ on.0 off)) (λ h. absurd (asleep on (finished (cpu_of w c) k (kinds.Remote by)) refl refl h)))

  swap_fits : (fresh : Bool) → CpusFit (swapped w c k fresh)
  swap_fits true = goes_to _ _ (swap_next true k) true (plain (swap_next true k) refl refl refl (lock_handing k.level))
  swap_fits false = goes_to 0 (group_of w 0) (swap_next false k) false (plain (swap_next false k) refl refl refl refl)

  by_stage : (st : Stage) → MayGoOn w c k st → CpusFit (walked w c k st)
  by_stage stages.Own may = goes_to _ _ _ false (plain _ refl refl refl refl)
  by_stage stages.Up may = goes _ _ _ true (up_on _ _ k)
  by_stage (stages.Mark more) may = goes _ _ _ false (mark_on more k)
  by_stage stages.Read may = goes_to 0 (group_of w 0) _ false (plain _ refl refl refl refl)
  by_stage stages.Child may = goes_to 0 (group_of w 0) _ false (plain _ refl refl refl refl)
  by_stage stages.Swap may = swap_fits k.fresh
  by_stage stages.LockChild may = goes_to _ _ _ false (plain _ refl refl refl refl)
  by_stage stages.LockGroup may = goes_to _ _ _ false (plain _ refl refl refl (sight_handing k.level))
  by_stage stages.SeeChild may = goes_to 0 (group_of w 0) _ false (see_child_on (child_on w c k.level) k)
  by_stage stages.SeeGroup may = goes_to 0 (group_of w 0) _ false (plain _ refl refl refl (after_handing k.level))
  by_stage (stages.Scan j) may = goes_to 0 (group_of w 0) _ false (plain _ refl refl refl (cond_handing (j == 7) stages.Store (stages.Scan (j + 1)) refl refl))
  by_stage stages.Store may = goes_to _ _ _ false (plain _ refl refl refl (cond_handing (at_top w.tree c k.level && (not k.on && not (is_remote k.kind))) (stages.First 0) stages.FreeGroup refl refl))
  by_stage (stages.First j) may = goes_to 0 (group_of w 0) _ false (plain _ refl refl refl (cond_handing (j == 7) stages.FreeGroup (stages.First (j + 1)) refl refl))
  by_stage stages.FreeGroup may = goes_to _ _ _ false (free_on k.level k)
  by_stage stages.FreeChild may = goes_to _ _ _ false (freed_on k.over k)
  by_stage stages.Finish may = finish k.kind refl
  by_stage stages.Handing may = absurd may

-- MOVE changes the bases of two free CPUs
move_fits : (w : World) (from to : ℕ) (m : Option (Class × Item)) → from < length w.cpus → to < length w.cpus → (cpu_of w from).walk ≡ None → (cpu_of w to).walk ≡ None → CpusFit w → CpusFit (moved_with w from to m)
move_fits w from to None hf ht ff ft f = f
move_fits w from to (Some m) hf ht ff ft f = all_fit (moved_with w from to (Some m)) (λ d. elim (cases_eq d to) [
  | inl same ↦ subst (λ n. CpuFits w.tree n (get_or (set (set w.cpus from (giver w from to m.0)) to (taker w to m.0 m.1)) n no_cpu)) (sym same)
      (subst (CpuFits w.tree to) (sym (get_or-set_same (set w.cpus from (giver w from to m.0)) to (taker w to m.0 m.1) no_cpu (omega (arith, length-set w.cpus from (giver w from to m.0)))))
      (based to (taker w to m.0 m.1).bases ft))
  | inr ne ↦ subst (CpuFits w.tree d) (sym (get_or-set_other (set w.cpus from (giver w from to m.0)) to d (taker w to m.0 m.1) no_cpu ne)) (elim (cases_eq d from) [
    | inl same ↦ subst (λ n. CpuFits w.tree n (get_or (set w.cpus from (giver w from to m.0)) n no_cpu)) (sym same)
        (subst (CpuFits w.tree from) (sym (get_or-set_same w.cpus from (giver w from to m.0) no_cpu hf)) (based from (giver w from to m.0).bases ff))
    | inr ne' ↦ subst (CpuFits w.tree d) (sym (get_or-set_other w.cpus from d (giver w from to m.0) no_cpu ne')) (fits_of w f d)
  ])
])
  where
    based : (c : ℕ) (bases : CpuBases) → (cpu_of w c).walk ≡ None → CpuFits w.tree c (with_bases (cpu_of w c) bases)
    based c bases free =
        let p = fits_of w f c in
        free_fits w.tree c (with_bases (cpu_of w c) bases) free p.marked (λ off. (let q = p.at_rest off in record { idle = q.idle; outside = q.outside })) p.no_wakeup

based_fits : (w : World) (c : ℕ) (bases : CpuBases) → c < length w.cpus → (cpu_of w c).walk ≡ None → CpusFit w → CpusFit (own w c (with_bases (cpu_of w c) bases))
based_fits w c bases hc free f =
    let p = fits_of w f c in
    moved_fit w 0 (group_of w 0) c (with_bases (cpu_of w c) bases) false hc f
    (free_fits w.tree c (with_bases (cpu_of w c) bases) free p.marked (λ off. (let q = p.at_rest off in record { idle = q.idle; outside = q.outside })) p.no_wakeup)

marker_is : (m : Option ℕ) (b : ℕ) → m ≡ Some b → m ≡ Some (unwrap_or m 0)
marker_is None b e = absurd (none-some b e)
marker_is (Some a) b e = refl

remote_by : (a by : CpuId) → ◌≡◌ {A = WalkKind} (kinds.Remote a) (kinds.Remote by) → a ≡ by
remote_by a by e = cc

not_remote_a : (by : CpuId) → ◌≡◌ {A = WalkKind} kinds.Activate (kinds.Remote by) → ⊥
not_remote_a by e = cc

not_remote_d : (by : CpuId) → ◌≡◌ {A = WalkKind} kinds.Deactivate (kinds.Remote by) → ⊥
not_remote_d by e = cc

not_remote_o : (by : CpuId) → ◌≡◌ {A = WalkKind} kinds.Offline (kinds.Remote by) → ⊥
not_remote_o by e = cc

not_remote_r : (by : CpuId) → ◌≡◌ {A = WalkKind} kinds.Reeval (kinds.Remote by) → ⊥
not_remote_r by e = cc

pub cpus_stay_fit : CpusStayFit
cpus_stay_fit w (steps.Clock now) walks f e = record { marked = f.marked; found = f.found; at_rest = f.at_rest; times = f.times; no_wakeup = f.no_wakeup; remote = f.remote }
cpus_stay_fit w (steps.Enter cpu) walks f e = moved_fit w 0 (group_of w 0) cpu.0 (record (cpu_of w cpu.0) { inside = true }) false e.is_free.in_range f
    (free_fits w.tree cpu.0 (record (cpu_of w cpu.0) { inside = true }) e.is_free.free (f.marked cpu.0) (λ off. absurd (either_off _ e.online off)) (f.no_wakeup cpu.0))
cpus_stay_fit w (steps.Leave cpu) walks f e = moved_fit w 0 (group_of w 0) cpu.0 (record (cpu_of w cpu.0) { inside = false }) false e.is_free.in_range f
    (free_fits w.tree cpu.0 (record (cpu_of w cpu.0) { inside = false }) e.is_free.free (f.marked cpu.0) (λ off. record { idle = (f.at_rest cpu.0 off).idle; outside = refl }) (f.no_wakeup cpu.0))
cpus_stay_fit w (steps.Arm cpu timer class expires job arg line) walks f e = based_fits w cpu.0 _ e.is_free.in_range e.is_free.free f
cpus_stay_fit w (steps.Cancel cpu timer by line) walks f e = based_fits w cpu.0 _ e.0.is_free.in_range e.0.is_free.free f
cpus_stay_fit w (steps.Hand cpu timer runner) walks f e = based_fits w cpu.0 _ e.is_free.in_range e.is_free.free f
cpus_stay_fit w (steps.Ticked cpu class runner) walks f e = based_fits w cpu.0 _ e.is_free.in_range e.is_free.free f
cpus_stay_fit w (steps.Move from to timer) walks f e = move_fits w from.0 to.0 (first_moved (cpu_of w from.0).bases) e.from_free.in_range e.to_free.in_range e.from_free.free e.to_free.free f
cpus_stay_fit w (steps.Idle cpu) walks f e =
    let y : CpuRecord = record (cpu_of w cpu.0) { idle = true; walk = (begins_with w cpu.0 kinds.Deactivate stages.Read (events_of (cpu_of w cpu.0).bases).next) } in
    moved_fit w 0 (group_of w 0) cpu.0 y false e.is_free.in_range f
    (begun_fits w.tree cpu.0 y _ kinds.Deactivate stages.Read _ refl refl refl (f.marked cpu.0) (λ off. absurd (either_off _ (online_of _ _ e.active) off))
    (λ h. elim h [ inl off ↦ absurd (either_off _ (online_of _ _ e.active) off) | inr act ↦ absurd (idle_not_active y.online y.idle refl act) ]) (λ by r. absurd (not_remote_d by r)))
cpus_stay_fit w (steps.Wake cpu) walks f e =
    let y : CpuRecord = record (cpu_of w cpu.0) { idle = false; wakeup = NEVER; walk = (begins_with w cpu.0 kinds.Activate stages.Own (events_of (cpu_of w cpu.0).bases).next) } in
    moved_fit w 0 (group_of w 0) cpu.0 y false e.is_free.in_range f
    (begun_fits w.tree cpu.0 y _ kinds.Activate stages.Own _ refl refl refl (f.marked cpu.0) (λ off. absurd (either_off _ e.online off)) (λ h. refl) (λ by r. absurd (not_remote_a by r)))
cpus_stay_fit w (steps.Offline cpu) walks f e =
    let y : CpuRecord = record (cpu_of w cpu.0) { online = false; idle = true; walk = (begins_with w cpu.0 kinds.Offline stages.Read NEVER) } in
    moved_fit w 0 (group_of w 0) cpu.0 y false e.is_free.in_range f
    (begun_fits w.tree cpu.0 y _ kinds.Offline stages.Read _ refl refl refl (f.marked cpu.0) (λ off. record { idle = refl; outside = e.outside }) (λ h. f.no_wakeup cpu.0 (inr e.active)) (λ by r. absurd (not_remote_o by r)))
cpus_stay_fit w (steps.Online cpu) walks f e =
    let y : CpuRecord = record (cpu_of w cpu.0) { online = true; idle = false; walk = (begins_with w cpu.0 kinds.Activate stages.Own (events_of (cpu_of w cpu.0).bases).next) } in
    moved_fit w 0 (group_of w 0) cpu.0 y false e.is_free.in_range f
    (begun_fits w.tree cpu.0 y _ kinds.Activate stages.Own _ refl refl refl (f.marked cpu.0) (λ off. absurd (true≢false off)) (λ h. f.no_wakeup cpu.0 (inl e.offline)) (λ by r. absurd (not_remote_a by r)))
cpus_stay_fit w (steps.Reeval cpu) walks f e =
    let y : CpuRecord = with_walk (cpu_of w cpu.0) (begins_with w cpu.0 kinds.Reeval stages.LockGroup (events_of (cpu_of w cpu.0).bases).next) in
    moved_fit w 0 (group_of w 0) cpu.0 y false e.is_free.in_range f
    (begun_fits w.tree cpu.0 y _ kinds.Reeval stages.LockGroup _ refl refl refl (f.marked cpu.0) (λ off. absurd (either_off _ e.online off)) (f.no_wakeup cpu.0) (λ by r. absurd (not_remote_r by r)))
cpus_stay_fit w (steps.Take cpu by) walks f e = moved_fit w 0 (group_of w 0) cpu.0 (record (cpu_of w cpu.0) { mark = Some by.0 }) false e.is_free.in_range f
    (free_fits w.tree cpu.0 (record (cpu_of w cpu.0) { mark = Some by.0 }) e.is_free.free (λ b is. (e.due.leaf, e.due.path)) (λ off. absurd (either_off _ e.online off)) (f.no_wakeup cpu.0))
cpus_stay_fit w (steps.Carry cpu) walks f e =
    let y : CpuRecord = with_walk (cpu_of w cpu.0) (begins_with w cpu.0 (kinds.Remote (marker_of (cpu_of w cpu.0))) stages.LockGroup (events_of (cpu_of w cpu.0).bases).next) in
    moved_fit w 0 (group_of w 0) cpu.0 y false e.is_free.in_range f
    (begun_fits w.tree cpu.0 y _ (kinds.Remote (marker_of (cpu_of w cpu.0))) stages.LockGroup _ refl refl refl (f.marked cpu.0) (λ off. absurd (either_off _ e.online off)) (f.no_wakeup cpu.0)
    (λ by r. marker_is (cpu_of w cpu.0).mark e.marked.0 e.marked.1 ∙ ap (λ (z : CpuId). Some z.0) (remote_by (marker_of (cpu_of w cpu.0)) by r)))
cpus_stay_fit w (steps.Release cpu) walks f e = moved_fit w 0 (group_of w 0) cpu.0 (record (cpu_of w cpu.0) { mark = None }) false e.is_free.in_range f
    (free_fits w.tree cpu.0 (record (cpu_of w cpu.0) { mark = None }) e.is_free.free (λ b is. absurd (none-some b is)) (λ off. (let q = f.at_rest cpu.0 off in record { idle = q.idle; outside = q.outside })) (f.no_wakeup cpu.0))
cpus_stay_fit w (steps.Walk cpu) walks f e = subst (λ m. CpusFit (walk_made w cpu.0 m)) (sym e.walk) (by_stage w cpu.0 e.made e.in_range walks f e.walk e.made.stage e.may_go_on)
cpus_stay_fit w (steps.HandOn cpu to) walks f e = ends w cpu.0 e.made e.in_range walks f e.walk
