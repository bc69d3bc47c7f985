-- every step keeps wakeups and leaf events with the timers that they stand for
use Rattle.std.proofs.Common.{◌≡◌, inl, inr, ℕ, ◌<◌, Bool, true, false, true≢false, length, get_or, set, Option, Some, None, refl, sym, ap, ◌∙◌, subst, arith}
use Rattle.std.specs.Prelude.{◌&&◌, not, is_some}
use Rattle.std.proofs.lemmas.Bool.{cases_eq}
use Rattle.std.proofs.lemmas.List.{get_or-set_same, get_or-set_other}
use Rattle.std.proofs.lemmas.Option.{none-some, same_Some}
use Rattle.std.proofs.Math.ListN.{length-set}
use Rattle.tm_base.specs.declared.names.TheConstants.{NEVER}
use Rattle.tm_base.specs.declared.names.Class.{Class}
use Rattle.event_queue.specs.declared.event.Event.{Event}
use Rattle.wheel_core.specs.declared.item.Item.{Item}
use Rattle.cpu_bases.specs.CpuBases.{CpuBases, armed, class_in, events_of}
use Rattle.tree_plan.specs.Shape.{Shape}
use Rattle.tree_plan.specs.Paths.{group_at_of}
use Rattle.walk_rules.specs.declared.walk.Walk.{Walk}
use Rattle.walk_rules.specs.declared.walk.WalkKind.{WalkKind}
use Rattle.walk_rules.specs.declared.walk.WalkKind.TheVariants as kinds
use Rattle.walk_rules.specs.declared.walk.Stage.{Stage}
use Rattle.walk_rules.specs.declared.walk.Stage.TheVariants as stages
use Rattle.walk_rules.specs.Hierarchy.{HasGroup}
use Rattle.core_world.specs.declared.step.Step.TheVariants as steps
use Rattle.core_world.specs.Steps.{begins_with, first_moved, giver, marker_of, moved_with, taker, walk_made, with_bases, with_walk}
use Rattle.walk_rules.specs.Stages.{begun_where}
use Rattle.core_world.specs.Wakeups.{Keeps, is_past_store, is_undisturbed}
use Rattle.core_world.specs.World.{CpuRecord, World, cpu_of, no_cpu, own}
use Rattle.core_laws.specs.Wakeups.Layer.{WakeupsFit, WakeupsStayFit}
use Rattle.core_laws.proofs.Wakeups.Later.{NoSooner, as_before, cancelled_later, handed_later, out_of}
use Rattle.core_laws.proofs.Wakeups.Leaves.{slot_of}
use Rattle.core_laws.proofs.Wakeups.Owed.{HasToldLeaf, IsEnough, WakesWell, all_wake, enough_still, free_wakes, own_wakes, wakes_of}
use Rattle.core_laws.proofs.Wakeups.Walking.{by_stage, hands_on}

-- a walk that begins has told nothing yet
record HasBegun (kind : WalkKind) (k : Walk) : Type 0 where
  kind_is : k.kind ≡ kind
  told : HasToldLeaf k → ⊥

begun_in_group : (kind : WalkKind) (stage : Stage) (pin next : ℕ) (k : Walk) → is_past_store stage ≡ false → begun_where true kind stage pin next ≡ Some k → HasBegun kind k
begun_in_group kind stage pin next k early e = subst (HasBegun kind) (same_Some _ _ e) (record {
  kind_is = refl;
  told = λ told. elim told [ inl high ↦ absurd (omega (arith, high)) | inr past ↦ absurd (true≢false (sym past ∙ early)) ];
})

kind_begun : (q : Bool) (kind : WalkKind) (stage : Stage) (pin next : ℕ) (k : Walk) → begun_where q kind stage pin next ≡ Some k → k.kind ≡ kind
kind_begun true kind stage pin next k e = sym (ap (λ (z : Walk). z.kind) (same_Some _ _ e))
kind_begun false kinds.Activate stage pin next k e = absurd (none-some k e)
kind_begun false kinds.Deactivate stage pin next k e = sym (ap (λ (z : Walk). z.kind) (same_Some _ _ e))
kind_begun false kinds.Offline stage pin next k e = sym (ap (λ (z : Walk). z.kind) (same_Some _ _ e))
kind_begun false kinds.Reeval stage pin next k e = sym (ap (λ (z : Walk). z.kind) (same_Some _ _ e))
kind_begun false (kinds.Remote by) stage pin next k e = sym (ap (λ (z : Walk). z.kind) (same_Some _ _ e))

untold : (t : Shape) (c : ℕ) (kind : WalkKind) (stage : Stage) (pin next : ℕ) (k : Walk) → is_past_store stage ≡ false → begun_where (is_some (group_at_of t c 0)) kind stage pin next ≡ Some k
    → HasGroup t c → HasToldLeaf k → ⊥
untold t c kind stage pin next k early e g told =
    (begun_in_group kind stage pin next k early (subst (λ q. begun_where q kind stage pin next ≡ Some k) (ap is_some g.1) e)).told told

-- a CPU whose walk begins wakes well where it then keeps a wakeup only if it had kept it
begun_wakes : (t : Shape) (c : ℕ) (y : CpuRecord) (slot : Option Event) (kind : WalkKind) (stage : Stage) (pin next : ℕ) → y.walk ≡ begun_where (is_some (group_at_of t c 0)) kind stage pin next
    → is_past_store stage ≡ false → (Keeps y → IsEnough y.wakeup y.bases slot) → WakesWell t c y slot
begun_wakes t c y slot kind stage pin next begun early enough = record {
  enough = enough;
  told = λ k is tells g past. absurd (untold t c kind stage pin next k early (sym begun ∙ is) g past);
}

active_online : (online idle : Bool) → (online && not idle) ≡ true → idle ≡ false
active_online true false e = refl
active_online true true e = absurd (true≢false (sym e))
active_online false idle e = absurd (true≢false (sym e))

either : (b : Bool) → b ≡ true → b ≡ false → ⊥
either b on off = true≢false (sym on ∙ off)

-- a CPU without a walk that is changed in nothing that its wakeup hangs on
still_wakes : (w : World) (c : ℕ) (y : CpuRecord) → WakeupsFit w → (cpu_of w c).walk ≡ None → y.walk ≡ None → y.online ≡ (cpu_of w c).online → y.idle ≡ (cpu_of w c).idle
    → y.inside ≡ (cpu_of w c).inside → y.wakeup ≡ (cpu_of w c).wakeup → NoSooner (cpu_of w c).bases y.bases → WakesWell w.tree c y (slot_of w c)
still_wakes w c y f free walk online idle inside wakeup later = free_wakes w.tree c y (slot_of w c) walk (λ keeps.
    subst (λ z. IsEnough z y.bases (slot_of w c)) (sym wakeup)
    (enough_still (cpu_of w c).wakeup (cpu_of w c).bases y.bases (slot_of w c) later ((wakes_of w f c).enough (record {
      online = sym online ∙ keeps.online;
      idle = sym idle ∙ keeps.idle;
      outside = sym inside ∙ keeps.outside;
      undisturbed = ap is_undisturbed free;
    }))))

bases_wake : (w : World) (c : ℕ) (bases : CpuBases) → c < length w.cpus → (cpu_of w c).walk ≡ None → NoSooner (cpu_of w c).bases bases → WakeupsFit w → WakeupsFit (own w c (with_bases (cpu_of w c) bases))
bases_wake w c bases hc free later f = own_wakes w c (with_bases (cpu_of w c) bases) hc f (still_wakes w c (with_bases (cpu_of w c) bases) f free free refl refl refl refl later)

disturbed_deactivate : (q : Bool) (stage : Stage) (pin next : ℕ) → is_undisturbed (begun_where q kinds.Deactivate stage pin next) ≡ false
disturbed_deactivate true stage pin next = refl
disturbed_deactivate false stage pin next = refl

disturbed_reeval : (q : Bool) (stage : Stage) (pin next : ℕ) → is_undisturbed (begun_where q kinds.Reeval stage pin next) ≡ false
disturbed_reeval true stage pin next = refl
disturbed_reeval false stage pin next = refl

-- MOVE changes the bases of two CPUs that keep no wakeup
record KeepsNone (y : CpuRecord) : Type 0 where
  free : y.walk ≡ None
  none : Keeps y → ⊥

move_wakes : (w : World) (from to : ℕ) (m : Option (Class × Item)) → from < length w.cpus → to < length w.cpus → KeepsNone (cpu_of w from) → KeepsNone (cpu_of w to) → WakeupsFit w → WakeupsFit (moved_with w from to m)
move_wakes w from to None hf ht nf nt f = f
move_wakes w from to (Some m) hf ht nf nt f = all_wake (moved_with w from to (Some m)) (λ d. elim (cases_eq d to) [
  | inl same ↦ subst (λ n. WakesWell w.tree n (get_or (set (set w.cpus from (giver w from to m.0)) to (taker w to m.0 m.1)) n no_cpu) (slot_of w n)) (sym same)
      (subst (λ (z : CpuRecord). WakesWell w.tree to z (slot_of w to)) (sym (get_or-set_same (set w.cpus from (giver w from to m.0)) to (taker w to m.0 m.1) no_cpu (omega (arith, length-set w.cpus from (giver w from to m.0)))))
      (based to (taker w to m.0 m.1).bases nt))
  | inr ne ↦ subst (λ (z : CpuRecord). WakesWell w.tree d z (slot_of w d)) (sym (get_or-set_other (set w.cpus from (giver w from to m.0)) to d (taker w to m.0 m.1) no_cpu ne)) (elim (cases_eq d from) [
    | inl same ↦ subst (λ n. WakesWell w.tree n (get_or (set w.cpus from (giver w from to m.0)) n no_cpu) (slot_of w n)) (sym same)
        (subst (λ (z : CpuRecord). WakesWell w.tree from z (slot_of w from)) (sym (get_or-set_same w.cpus from (giver w from to m.0) no_cpu hf)) (based from (giver w from to m.0).bases nf))
    | inr ne' ↦ subst (λ (z : CpuRecord). WakesWell w.tree d z (slot_of w d)) (sym (get_or-set_other w.cpus from d (giver w from to m.0) no_cpu ne')) (wakes_of w f d)
  ])
])
  where
    based : (c : ℕ) (bases : CpuBases) → KeepsNone (cpu_of w c) → WakesWell w.tree c (with_bases (cpu_of w c) bases) (slot_of w c)
    based c bases none = free_wakes w.tree c (with_bases (cpu_of w c) bases) (slot_of w c) none.free
        (λ keeps. absurd (none.none (record { online = keeps.online; idle = keeps.idle; outside = keeps.outside; undisturbed = keeps.undisturbed })))

pub wakeups_stay_fit : WakeupsStayFit
wakeups_stay_fit w (steps.Clock now) h sized timers walks edges cpus f e = all_wake (record w { clock = now }) (λ c. wakes_of w f c)
wakeups_stay_fit w (steps.Enter cpu) h sized timers walks edges cpus f e =
    let y : CpuRecord = record (cpu_of w cpu.0) { inside = true } in
    own_wakes w cpu.0 y e.is_free.in_range f (free_wakes w.tree cpu.0 y (slot_of w cpu.0) e.is_free.free (λ keeps. absurd (true≢false keeps.outside)))
wakeups_stay_fit w (steps.Leave cpu) h sized timers walks edges cpus f e =
    let y : CpuRecord = record (cpu_of w cpu.0) { inside = false } in
    own_wakes w cpu.0 y e.is_free.in_range f (free_wakes w.tree cpu.0 y (slot_of w cpu.0) e.is_free.free (λ keeps. absurd (either _ keeps.idle e.busy)))
wakeups_stay_fit w (steps.Arm cpu timer class expires job arg line) h sized timers walks edges cpus f e =
    let y : CpuRecord = with_bases (cpu_of w cpu.0) (armed w.clock class timer.0 expires job arg line cpu (cpu_of w cpu.0).bases) in
    own_wakes w cpu.0 y e.is_free.in_range f (free_wakes w.tree cpu.0 y (slot_of w cpu.0) e.is_free.free (λ keeps. elim e.may_run [
      | inl active ↦ absurd (either _ keeps.idle (active_online _ _ active))
      | inr inside ↦ absurd (either _ inside keeps.outside)
    ]))
wakeups_stay_fit w (steps.Cancel cpu timer by line) h sized timers walks edges cpus f e =
    bases_wake w cpu.0 _ e.0.is_free.in_range e.0.is_free.free (cancelled_later (cpu_of w cpu.0).bases (timers.consistent cpu.0) w.clock timer.0 line by) f
wakeups_stay_fit w (steps.Hand cpu timer runner) h sized timers walks edges cpus f e =
    bases_wake w cpu.0 _ e.is_free.in_range e.is_free.free (handed_later (cpu_of w cpu.0).bases (timers.consistent cpu.0) w.clock (class_in timer.0 (cpu_of w cpu.0).bases) runner) f
wakeups_stay_fit w (steps.Ticked cpu class runner) h sized timers walks edges cpus f e =
    bases_wake w cpu.0 _ e.is_free.in_range e.is_free.free (out_of (cpu_of w cpu.0).bases (timers.consistent cpu.0) w.clock class runner) f
wakeups_stay_fit w (steps.Move from to timer) h sized timers walks edges cpus f e =
    move_wakes w from.0 to.0 (first_moved (cpu_of w from.0).bases) e.from_free.in_range e.to_free.in_range
    (record { free = e.from_free.free; none = λ keeps. either _ keeps.online e.from_offline })
    (record { free = e.to_free.free; none = λ keeps. either _ keeps.idle (active_online _ _ e.to_active) }) f
wakeups_stay_fit w (steps.Idle cpu) h sized timers walks edges cpus f e =
    let y : CpuRecord = record (cpu_of w cpu.0) { idle = true; walk = (begins_with w cpu.0 kinds.Deactivate stages.Read (events_of (cpu_of w cpu.0).bases).next) } in
    own_wakes w cpu.0 y e.is_free.in_range f (begun_wakes w.tree cpu.0 y (slot_of w cpu.0) kinds.Deactivate stages.Read _ _ refl refl
    (λ keeps. absurd (either _ keeps.undisturbed (disturbed_deactivate _ _ _ _))))
wakeups_stay_fit w (steps.Wake cpu) h sized timers walks edges cpus f e =
    let y : CpuRecord = record (cpu_of w cpu.0) { idle = false; wakeup = NEVER; walk = (begins_with w cpu.0 kinds.Activate stages.Own (events_of (cpu_of w cpu.0).bases).next) } in
    own_wakes w cpu.0 y e.is_free.in_range f (begun_wakes w.tree cpu.0 y (slot_of w cpu.0) kinds.Activate stages.Own _ _ refl refl (λ keeps. absurd (true≢false (sym keeps.idle))))
wakeups_stay_fit w (steps.Offline cpu) h sized timers walks edges cpus f e =
    let y : CpuRecord = record (cpu_of w cpu.0) { online = false; idle = true; walk = (begins_with w cpu.0 kinds.Offline stages.Read NEVER) } in
    own_wakes w cpu.0 y e.is_free.in_range f (begun_wakes w.tree cpu.0 y (slot_of w cpu.0) kinds.Offline stages.Read _ _ refl refl (λ keeps. absurd (true≢false (sym keeps.online))))
wakeups_stay_fit w (steps.Online cpu) h sized timers walks edges cpus f e =
    let y : CpuRecord = record (cpu_of w cpu.0) { online = true; idle = false; walk = (begins_with w cpu.0 kinds.Activate stages.Own (events_of (cpu_of w cpu.0).bases).next) } in
    own_wakes w cpu.0 y e.is_free.in_range f (begun_wakes w.tree cpu.0 y (slot_of w cpu.0) kinds.Activate stages.Own _ _ refl refl (λ keeps. absurd (true≢false (sym keeps.idle))))
wakeups_stay_fit w (steps.Reeval cpu) h sized timers walks edges cpus f e =
    let y : CpuRecord = with_walk (cpu_of w cpu.0) (begins_with w cpu.0 kinds.Reeval stages.LockGroup (events_of (cpu_of w cpu.0).bases).next) in
    own_wakes w cpu.0 y e.is_free.in_range f (begun_wakes w.tree cpu.0 y (slot_of w cpu.0) kinds.Reeval stages.LockGroup _ _ refl refl
    (λ keeps. absurd (either _ keeps.undisturbed (disturbed_reeval _ _ _ _))))
wakeups_stay_fit w (steps.Take cpu by) h sized timers walks edges cpus f e =
    let y : CpuRecord = record (cpu_of w cpu.0) { mark = Some by.0 } in
    own_wakes w cpu.0 y e.is_free.in_range f (still_wakes w cpu.0 y f e.is_free.free e.is_free.free refl refl refl refl (as_before (cpu_of w cpu.0).bases))
wakeups_stay_fit w (steps.Carry cpu) h sized timers walks edges cpus f e =
    let y : CpuRecord = with_walk (cpu_of w cpu.0) (begins_with w cpu.0 (kinds.Remote (marker_of (cpu_of w cpu.0))) stages.LockGroup (events_of (cpu_of w cpu.0).bases).next) in
    own_wakes w cpu.0 y e.is_free.in_range f (begun_wakes w.tree cpu.0 y (slot_of w cpu.0) (kinds.Remote (marker_of (cpu_of w cpu.0))) stages.LockGroup _ _ refl refl
    (λ keeps. (wakes_of w f cpu.0).enough (record { online = keeps.online; idle = keeps.idle; outside = keeps.outside; undisturbed = ap is_undisturbed e.is_free.free })))
wakeups_stay_fit w (steps.Release cpu) h sized timers walks edges cpus f e =
    let y : CpuRecord = record (cpu_of w cpu.0) { mark = None } in
    own_wakes w cpu.0 y e.is_free.in_range f (still_wakes w cpu.0 y f e.is_free.free e.is_free.free refl refl refl refl (as_before (cpu_of w cpu.0).bases))
wakeups_stay_fit w (steps.Walk cpu) h sized timers walks edges cpus f e =
    subst (λ m. WakeupsFit (walk_made w cpu.0 m)) (sym e.walk) (by_stage w cpu.0 e.made e.in_range h sized timers walks edges cpus f e.walk e.made.stage refl e.may_go_on)
wakeups_stay_fit w (steps.HandOn cpu to) h sized timers walks edges cpus f e = hands_on w cpu.0 e.made e.in_range h sized timers walks edges cpus f e.walk e.handing
