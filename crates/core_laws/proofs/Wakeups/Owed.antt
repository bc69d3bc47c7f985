-- what is kept of one CPU and the event in its leaf, and what a step of the general form makes of
-- it
use Rattle.std.proofs.Common.{◌≡◌, ◌≢◌, ◌⊎◌, inl, inr, ℕ, ◌<◌, ◌≤◌, Bool, true, false, cond, length, Option, Some, None, refl, sym, ap, ◌∙◌, subst, arith}
use Rattle.std.specs.Prelude.{◌==◌, nat_lt, option_map}
use Rattle.std.proofs.lemmas.Bool.{cases_Bool, cases_eq, cond-true, cond-false, ltb-true, ltb-false, ne_eqb}
use Rattle.std.proofs.lemmas.Option.{none-some, same_Some}
use Rattle.tm_base.specs.declared.names.TheConstants.{NEVER}
use Rattle.tm_base.specs.declared.names.Class.TheVariants.{Pinned}
use Rattle.event_queue.specs.declared.event.Event.{Event}
use Rattle.event_queue.specs.EventMap.{Counts}
use Rattle.cpu_bases.specs.CpuBases.{CpuBases, IsConsistent, base_of, events_of}
use Rattle.tree_plan.specs.Shape.{Shape}
use Rattle.tree_plan.specs.Paths.{group_at_of}
use Rattle.walk_rules.specs.declared.walk.Walk.{Walk}
use Rattle.walk_rules.specs.Hierarchy.{HasGroup}
use Rattle.walk_rules.specs.Scene.{Group}
use Rattle.walk_rules.specs.Stages.{forget, is_remote, leaf_event}
use Rattle.walk_rules.specs.Standing.{Tells}
use Rattle.core_world.specs.Wakeups.{HasLeafEvent, Keeps, is_past_store, is_undisturbed}
use Rattle.core_world.specs.World.{CpuRecord, World, cpu_of, group_of, moved, own, reads_at, stale_walk}
use Rattle.core_world.proofs.Moves.{beside, cpu_else, cpu_same}
use Rattle.core_laws.specs.Wakeups.Layer.{WakeupsFit}
use Rattle.core_laws.proofs.Wakeups.Later.{NoSooner, first_low, in_time}
use Rattle.core_laws.proofs.Wakeups.Leaves.{slot_at, slot_of, slots_same}

-- the event is there, isn't ignored and isn't later than a time
pub record TellsOf (slot : Option Event) (time : ℕ) : Type 0 where
  pub event : Event
  pub there : slot ≡ Some event
  pub counts : Counts event
  pub soon : event.expiry ≤ time

-- this wakeup with this leaf event is enough for these bases
pub record IsEnough (wakeup : ℕ) (bases : CpuBases) (slot : Option Event) : Type 0 where
  pub pinned : wakeup ≤ (events_of bases).pin
  pub global : (wakeup ≤ (events_of bases).first_global) ⊎ TellsOf slot (events_of bases).first_global

-- the walk has told its CPU's event in the leaf
abbrev pub HasToldLeaf : Walk → Type 0
HasToldLeaf k = (0 < k.level) ⊎ (is_past_store k.stage ≡ true)

-- WHAT IS KEPT of CPU c, where it has this record and this event in its leaf
pub record WakesWell (t : Shape) (c : ℕ) (y : CpuRecord) (slot : Option Event) : Type 0 where
  pub enough : Keeps y → IsEnough y.wakeup y.bases slot
  pub told : (k : Walk) → y.walk ≡ Some k → Tells k.kind → HasGroup t c → HasToldLeaf k → slot ≡ leaf_event c k.next

tells_of : (w : World) (c time : ℕ) → HasLeafEvent w c time → TellsOf (slot_of w c) time
tells_of w c time e = record { event = e.event; there = ap (slot_at w c) e.path ∙ e.there; counts = e.counts; soon = e.in_time }

leaf_has : (w : World) (c time : ℕ) (m : Option ℕ) → group_at_of w.tree c 0 ≡ m → TellsOf (slot_at w c m) time → HasLeafEvent w c time
leaf_has w c time None path e = absurd (none-some e.event e.there)
leaf_has w c time (Some leaf) path e = record { leaf = leaf; event = e.event; path = path; there = e.there; counts = e.counts; in_time = e.soon }

pub wakes_of : (w : World) → WakeupsFit w → (c : ℕ) → WakesWell w.tree c (cpu_of w c) (slot_of w c)
wakes_of w f c = record {
  enough = λ keeps. (let p = f.wakeups c keeps in record {
    pinned = p.pinned;
    global = elim p.global [ inl soon ↦ inl soon | inr told ↦ inr (tells_of w c (events_of (cpu_of w c).bases).first_global told) ];
  });
  told = λ k is tells g past. ap (slot_at w c) g.1 ∙ f.own_event c g.0 k is tells g.1 past;
}

pub all_wake : (w : World) → ((c : ℕ) → WakesWell w.tree c (cpu_of w c) (slot_of w c)) → WakeupsFit w
all_wake w f = record {
  wakeups = λ c keeps. (let p = (f c).enough keeps in record {
    pinned = p.pinned;
    global = elim p.global [ inl soon ↦ inl soon | inr told ↦ inr (leaf_has w c (events_of (cpu_of w c).bases).first_global (group_at_of w.tree c 0) refl told) ];
  });
  own_event = λ c leaf k is tells path past. sym (ap (slot_at w c) path) ∙ (f c).told k is tells (leaf, path) past;
}

-- a stale walk is the same in all but its reading
same_walk : (b : Bool) (k : Walk) → forget (cond b (record k { fresh = false }) k) ≡ forget k
same_walk true k = refl
same_walk false k = refl

unstale : (t : Shape) (g d : ℕ) (m : Option Walk) (k : Walk) → option_map (stale_walk t g d) m ≡ Some k → (j : Walk) × (m ≡ Some j) × (forget k ≡ forget j)
unstale t g d None k e = absurd (none-some k e)
unstale t g d (Some j) k e = (j, refl, ap forget (sym (same_Some _ _ e)) ∙ same_walk (reads_at t g d j) j)

undisturbed : (t : Shape) (g d : ℕ) (m : Option Walk) → is_undisturbed (option_map (stale_walk t g d) m) ≡ is_undisturbed m
undisturbed t g d None = refl
undisturbed t g d (Some k) = ap (λ (z : Walk). is_remote z.kind) (same_walk (reads_at t g d k) k)

beside_wakes : (t : Shape) (r : Bool) (g d : ℕ) (y : CpuRecord) (slot : Option Event) → WakesWell t d y slot → WakesWell t d (beside t r g d y) slot
beside_wakes t false g d y slot f = f
beside_wakes t true g d y slot f = record {
  enough = λ keeps. f.enough (record { online = keeps.online; idle = keeps.idle; outside = keeps.outside; undisturbed = sym (undisturbed t g d y.walk) ∙ keeps.undisturbed });
  told = λ k is tells g' past. (let j = unstale t g d y.walk k is in
      f.told j.0 j.1 (subst (λ (z : Walk). Tells z.kind) j.2 tells) g' (subst (λ (z : Walk). HasToldLeaf z) j.2 past) ∙ ap (λ (z : Walk). leaf_event d z.next) (sym j.2));
}

-- A STEP OF THE GENERAL FORM keeps it where each other CPU's leaf event stays and its own CPU wakes
-- well
pub moved_wakes : (w : World) (g : ℕ) (x : Group) (c : ℕ) (y : CpuRecord) (r : Bool) → c < length w.cpus → WakeupsFit w
    → ((d : ℕ) → d ≢ c → slot_of (moved w g x c y r) d ≡ slot_of w d) → WakesWell w.tree c y (slot_of (moved w g x c y r) c) → WakeupsFit (moved w g x c y r)
moved_wakes w g x c y r hc f others new = all_wake (moved w g x c y r) (λ d. elim (cases_eq d c) [
  | inl same ↦ subst (λ n. WakesWell w.tree n (cpu_of (moved w g x c y r) n) (slot_of (moved w g x c y r) n)) (sym same)
      (subst (λ (z : CpuRecord). WakesWell w.tree c z (slot_of (moved w g x c y r) c)) (sym (cpu_same w g x c y r hc)) new)
  | inr ne ↦ subst (λ (z : CpuRecord). WakesWell w.tree d z (slot_of (moved w g x c y r) d)) (sym (cpu_else w g x c y r d ne))
      (subst (WakesWell w.tree d (beside w.tree r g d (cpu_of w d))) (sym (others d ne)) (beside_wakes w.tree r g d (cpu_of w d) (slot_of w d) (wakes_of w f d)))
])

-- where the group's events stay as they are
pub same_wakes : (w : World) (g : ℕ) (x : Group) (c : ℕ) (y : CpuRecord) (r : Bool) → c < length w.cpus → WakeupsFit w
    → x.events ≡ (group_of w g).events → WakesWell w.tree c y (slot_of w c) → WakeupsFit (moved w g x c y r)
same_wakes w g x c y r hc f e new =
    moved_wakes w g x c y r hc f (λ d ne. slots_same w g x c y r e d) (subst (WakesWell w.tree c y) (sym (slots_same w g x c y r e c)) new)

pub own_wakes : (w : World) (c : ℕ) (y : CpuRecord) → c < length w.cpus → WakeupsFit w → WakesWell w.tree c y (slot_of w c) → WakeupsFit (own w c y)
own_wakes w c y hc f new = same_wakes w 0 (group_of w 0) c y false hc f refl new

-- a CPU without a walk
pub free_wakes : (t : Shape) (c : ℕ) (y : CpuRecord) (slot : Option Event) → y.walk ≡ None → (Keeps y → IsEnough y.wakeup y.bases slot) → WakesWell t c y slot
free_wakes t c y slot free enough = record { enough = enough; told = λ k is. absurd (none-some k (sym free ∙ is)) }

-- where no event comes sooner, what was enough is so
pub enough_still : (wakeup : ℕ) (old new : CpuBases) (slot : Option Event) → NoSooner old new → IsEnough wakeup old slot → IsEnough wakeup new slot
enough_still wakeup old new slot later f = record {
  pinned = (let p = later.pin in let q = f.pinned in omega (arith, p, q));
  global = (let p = later.first_global in elim f.global [
    | inl soon ↦ inl (omega (arith, p, soon))
    | inr told ↦ inr (record { event = told.event; there = told.there; counts = told.counts; soon = (let s = told.soon in omega (arith, p, s)) })
  ]);
}

told_by : (c next : ℕ) → next < NEVER → TellsOf (leaf_event c next) next
told_by c next low = record {
  event = record { expiry = next; cpu = record { 0 = c }; ignored = false };
  there = cond-false (next == NEVER) None (Some (record { expiry = next; cpu = record { 0 = c }; ignored = false })) (ne_eqb next NEVER (λ same. omega (arith, same, low)));
  counts = refl;
  soon = omega arith;
}

-- a wakeup no later than the pinned timers, together with the event or a wakeup for the global ones
-- that come before
pub told_enough : (c wakeup next : ℕ) (bases : CpuBases) (slot : Option Event) → IsConsistent bases → next ≡ (events_of bases).next → wakeup ≤ (events_of bases).pin
    → (slot ≡ leaf_event c next) ⊎ (wakeup ≤ next) → IsEnough wakeup bases slot
told_enough c wakeup next bases slot consistent is low told = record {
  pinned = low;
  global = elim (cases_Bool (nat_lt (events_of bases).first_global (events_of bases).pin)) [
    | inl before ↦
        let value : next ≡ (events_of bases).first_global = is ∙ cond-true (nat_lt (events_of bases).first_global (events_of bases).pin) (events_of bases).first_global NEVER before in
        elim told [
          | inl event ↦
              let sooner = ltb-true (events_of bases).first_global (events_of bases).pin before in
              let bound : (events_of bases).pin ≤ NEVER = first_low (base_of Pinned bases).items (in_time bases consistent Pinned) in
              inr (subst (TellsOf slot) value (subst (λ z. TellsOf z next) (sym event) (told_by c next (omega (arith, value, sooner, bound)))))
          | inr soon ↦ inl (omega (arith, value, soon))
        ]
    | inr after ↦ let later = ltb-false (events_of bases).first_global (events_of bases).pin after in inl (omega (arith, later, low))
  ];
}
