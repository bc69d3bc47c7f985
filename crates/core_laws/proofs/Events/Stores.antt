-- Store: the group's first event is told, and it has more to tell
use Rattle.std.proofs.Common.{◌≡◌, ◌≢◌, inl, inr, ℕ, zero, suc, ◌<◌, Bool, true, false, true≢false, length, [], ◌∷◌, Option, Some, None, refl, sym, ap, ◌∙◌, subst, arith}
use Rattle.std.specs.Prelude.{◌&&◌, not, option_map, if◌then◌else◌}
use Rattle.std.proofs.lemmas.Bool.{cases_eq}
use Rattle.std.proofs.lemmas.Option.{none-some, same_Some}
use Rattle.event_queue.specs.declared.event.Event.{Event}
use Rattle.event_queue.specs.EventMap.{Counts, EventMap, event_at}
use Rattle.tm_base.specs.declared.names.Child.{Child}
use Rattle.tree_plan.specs.Shape.{Shape}
use Rattle.tm_base.specs.Children.{of_group}
use Rattle.tree_plan.specs.Paths.{bit_of, child_towards, group_at_of, parent_of}
use Rattle.walk_rules.specs.declared.walk.Walk.{Walk}
use Rattle.walk_rules.specs.declared.walk.Stage.{Stage}
use Rattle.walk_rules.specs.declared.walk.Stage.TheVariants as stages
use Rattle.walk_rules.specs.Hierarchy.{at_top, side}
use Rattle.walk_rules.specs.Queues.{EventsTold, HasTold, IsOnItsWay, IsTold, group_under, is_locking, is_past_sight, read_of}
use Rattle.walk_rules.specs.Scene.{Scene, is_on}
use Rattle.walk_rules.specs.Stages.{forget, is_remote, store_next, stored_event, with_event}
use Rattle.walk_rules.specs.Standing.{FlagsAt}
use Rattle.core_world.specs.Steps.{here, walked, with_walk}
use Rattle.core_world.specs.World.{CpuRecord, World, cpu_of, group_of, scene_of}
use Rattle.core_world.proofs.Moves.{moved_laws}
use Rattle.core_laws.proofs.Edges.Facts.{group_child, group_edge}
use Rattle.core_laws.proofs.Events.Below.{has_leaf}
use Rattle.core_laws.proofs.Events.Carries.{Carries, CarriesAt, IsAccountedFor, carries_else, told_step, will_tell_at}
use Rattle.core_laws.proofs.Events.Rises.{writes_at}
use Rattle.core_laws.proofs.Events.Slots.{IsStored, best_stored, slot_same}
use Rattle.core_laws.proofs.Events.Told.{carries_cond, was_off}
use Rattle.core_laws.proofs.Events.Walking.{BeforeStep, at_here, either, flags, no_heading, not_top, or_true, said, walk_is}
use Rattle.core_laws.proofs.Events.Writes.{WritesEvent, same_or, told_else}

in_slots : (es : EventMap) (i : ℕ) (e : Event) → event_at es i ≡ Some e → i < length es
in_slots [] i e there = absurd (none-some e there)
in_slots (y ∷ es) zero e there = omega arith
in_slots (y ∷ es) (suc i) e there = let low = in_slots es i e there in omega (arith, low)

-- a walk that waits for its locks will tell its group's events
locking_tells : (t : Shape) (c level : ℕ) (top on over : Bool) (st : Stage) → is_locking st ≡ true → FlagsAt top on over st → will_tell_at t c level over st ≡ group_at_of t c level
locking_tells t c level top on over stages.LockChild l f = ap (λ o. if o then None else group_at_of t c level) f.1
locking_tells t c level top on over stages.LockGroup l f = ap (λ o. if o then None else group_at_of t c level) f.1
locking_tells t c level top on over stages.Own l f = absurd (true≢false (sym l))
locking_tells t c level top on over stages.Up l f = absurd (true≢false (sym l))
locking_tells t c level top on over (stages.Mark more) l f = absurd (true≢false (sym l))
locking_tells t c level top on over stages.Read l f = absurd (true≢false (sym l))
locking_tells t c level top on over stages.Child l f = absurd (true≢false (sym l))
locking_tells t c level top on over stages.Swap l f = absurd (true≢false (sym l))
locking_tells t c level top on over stages.SeeChild l f = absurd (true≢false (sym l))
locking_tells t c level top on over stages.SeeGroup l f = absurd (true≢false (sym l))
locking_tells t c level top on over (stages.Scan i) l f = absurd (true≢false (sym l))
locking_tells t c level top on over stages.Store l f = absurd (true≢false (sym l))
locking_tells t c level top on over (stages.First i) l f = absurd (true≢false (sym l))
locking_tells t c level top on over stages.FreeGroup l f = absurd (true≢false (sym l))
locking_tells t c level top on over stages.FreeChild l f = absurd (true≢false (sym l))
locking_tells t c level top on over stages.Finish l f = absurd (true≢false (sym l))
locking_tells t c level top on over stages.Handing l f = absurd (true≢false (sym l))

pub waits_carries : (w : World) → BeforeStep w → (x d : ℕ) → IsOnItsWay w.tree (scene_of w) x d → Carries w.tree d ((scene_of w).walk d) x
waits_carries w a x d way = subst (λ m. Carries w.tree d m x) (sym way.walk)
    (inl (locking_tells w.tree d way.made.level (at_top w.tree d way.made.level) way.made.on way.made.over way.made.stage way.locking
    (a.walks.flags d way.made way.walk (has_leaf w.tree a.hierarchy d way.made.level x way.here)) ∙ way.here))

module _ (w : World) (c : ℕ) (k : Walk) (hc : c < length w.cpus) (a : BeforeStep w) (is : (cpu_of w c).walk ≡ Some k) (e : k.stage ≡ stages.Store) where
  slot : Option Event
  slot = stored_event k.level c k

  new : Scene
  unfolding slot
  new = scene_of (walked w c k stages.Store)

  at : group_at_of w.tree c k.level ≡ Some (here w c k)
  at = at_here w c k a is stages.Store e (λ z. cc)

  through : (m : Child) × (child_towards w.tree c k.level ≡ Some m)
  through = let m = a.hierarchy.towards c k.level (here w c k) at in (m.0, m.1)

  writes : WritesEvent w.tree (scene_of w) new through.0 (here w c k) slot
  unfolding new slot
  writes = writes_at w c k hc a is k.level (here w c k) through.0 at through.1 (with_event (group_of w (here w c k)) (side w.tree c k.level) (stored_event k.level c k)) (stored_event k.level c k) refl
      (with_walk (cpu_of w c) (Some (store_next (at_top w.tree c k.level) k)))

  eight : (l x : ℕ) → group_at_of w.tree c l ≡ Some x → length (group_of w x).events ≡ 8
  eight l x there = let low = a.hierarchy.within c l x there in a.sized.slots x (omega (arith, low, a.sized.groups))

  -- the walk carries its group's events on, unless it ends here
  carries_on : (z : ℕ) → (if k.over then None else group_at_of w.tree c k.level) ≡ Some z → Carries w.tree c (new.walk c) z
  unfolding new slot
  carries_on z will =
      let top = at_top w.tree c k.level in
      let y = with_walk (cpu_of w c) (Some (store_next top k)) in
      subst (λ m. Carries w.tree c m z) (sym (ap (λ (i : CpuRecord). option_map forget i.walk) ((moved_laws w (here w c k) (with_event (group_of w (here w c k)) (side w.tree c k.level) (stored_event k.level c k)) c y false).cpu hc)))
      (carries_cond w.tree c k.level k.over z (top && (not k.on && not (is_remote k.kind))) (stages.First 0) stages.FreeGroup (inl will) (inl will))

  -- where it ends here, and the group isn't active any more, another walk is on the way
  here_carried : (p : ℕ) → parent_of w.tree (of_group (here w c k)) ≡ Some p → is_on (scene_of w) (of_group (here w c k)) ≡ false → IsAccountedFor w.tree new (here w c k) p
  unfolding new slot
  here_carried p parent off = elim (either k.over) [
    | inr goes ↦ inr (inr (c, carries_on (here w c k) (ap (λ o. if o then None else group_at_of w.tree c k.level) goes ∙ at)))
    | inl ends ↦ elim (or_true _ _ (sym (flags w c k a is stages.Store e k.level (here w c k) at) ∙ ends)) [
      | inl on ↦
          let d = a.events.sights c (here w c k) (forget k) (walk_is w c k a is) (ap is_past_sight e) on at off in
          inr (inr (d.0, carries_else w.tree (scene_of w) (scene_of (walked w c k stages.Store)) c (here w c k) false (moved_laws w (here w c k) _ c _ false).changes d.0 (here w c k) d.1.0 (waits_carries w a (here w c k) d.0 d.1.1)))
      | inr top ↦ absurd (not_top w c k a is k.level (here w c k) p at parent top)
    ]
  ]

  -- a child that is a group stands one level below, and isn't this one
  apart : (l x : ℕ) → k.level ≡ suc l → group_at_of w.tree c l ≡ Some x → x ≢ here w c k
  apart l x level low same =
      let one = a.hierarchy.one_level c c l k.level (here w c k) (low ∙ ap Some same) at in
      absurd (omega (arith, one, level))

  -- all of its events were read, so the first one isn't later than any of them
  first_is : (l x i : ℕ) (f : Event) → k.level ≡ suc l → group_at_of w.tree c l ≡ Some x → event_at (group_of w x).events i ≡ Some f → Counts f → IsStored slot f.expiry
  unfolding slot
  first_is l x i f level low there counts =
      let bound = in_slots (group_of w x).events i f there in
      let slots = eight l x low in
      let stored = best_stored k.best f.expiry (a.events.best c x 8 (forget k) (walk_is w c k a is) (ap read_of e) (ap (group_under w.tree c) level ∙ low) i f (omega (arith, bound, slots)) there counts) in
      record { event = stored.event; stored = ap (λ n. stored_event n c k) level ∙ stored.stored; counts = stored.counts; in_time = stored.in_time }

  slot_there : event_at (new.group (here w c k)).events (bit_of w.tree through.0) ≡ slot
  slot_there =
      let bit = a.hierarchy.eight through.0 in
      let slots = eight k.level (here w c k) at in
      ap (λ es. event_at es (bit_of w.tree through.0)) writes.written ∙ slot_same (group_of w (here w c k)).events (bit_of w.tree through.0) slot (omega (arith, bit, slots))

  -- the child's first event is told
  told_by : (x p time : ℕ) → p ≡ here w c k → of_group x ≡ through.0 → IsStored slot time → IsTold w.tree new (of_group x) p time
  told_by x p time here_is same stored = record {
    event = stored.event;
    there = ap (λ n. event_at (new.group n).events (bit_of w.tree (of_group x))) here_is ∙ (ap (λ m. event_at (new.group (here w c k)).events (bit_of w.tree m)) same ∙ (slot_there ∙ stored.stored));
    counts = stored.counts;
    in_time = stored.in_time;
  }

  child_told : (x p : ℕ) → parent_of w.tree (of_group x) ≡ Some p → of_group x ≡ through.0 → HasTold w.tree new x p
  child_told x p parent same i f there counts =
      let low = group_edge w.tree c k.level x (through.1 ∙ ap Some (sym same)) in
      told_by x p f.expiry (same_Some _ _ (sym parent ∙ (ap (parent_of w.tree) same ∙ writes.parent))) same
      (first_is low.0 x i f low.1 low.2 (ap (λ es. event_at es i) (sym (writes.others x (apart low.0 x low.1 low.2))) ∙ there) counts)

  -- what another group told is told
  others_told : (x p : ℕ) → parent_of w.tree (of_group x) ≡ Some p → x ≢ here w c k → of_group x ≢ through.0 → HasTold w.tree (scene_of w) x p → HasTold w.tree new x p
  others_told x p parent ne other told = told_else w.tree a.hierarchy (scene_of w) new through.0 (here w c k) slot writes x p parent other
      (λ i f there counts. ap (λ es. event_at es i) (sym (writes.others x ne)) ∙ there) told

  told_or : (x p : ℕ) → parent_of w.tree (of_group x) ≡ Some p → is_on (scene_of w) (of_group x) ≡ false → HasTold w.tree (scene_of w) x p → IsAccountedFor w.tree new x p
  told_or x p parent off told = elim (cases_eq x (here w c k)) [
    | inl same ↦ subst (λ n. IsAccountedFor w.tree new n p) (sym same)
        (here_carried p (ap (λ n. parent_of w.tree (of_group n)) (sym same) ∙ parent) (subst (λ n. is_on (scene_of w) (of_group n) ≡ false) same off))
    | inr ne ↦ elim (same_or w.tree a.hierarchy (scene_of w) new through.0 (here w c k) slot writes (of_group x) p parent) [
      | inl child ↦ inl (child_told x p parent child)
      | inr other ↦ inl (others_told x p parent ne other told)
    ]
  ]

  own_or : (x p : ℕ) → parent_of w.tree (of_group x) ≡ Some p → CarriesAt w.tree c k.level k.over stages.Store x → IsAccountedFor w.tree new x p
  own_or x p parent (inl will) = inr (inr (c, carries_on x will))
  own_or x p parent (inr tells) = inl (child_told x p parent (same_Some _ _ (sym (under k.level tells) ∙ through.1)))
    where
      under : (l : ℕ) → group_under w.tree c l ≡ Some x → child_towards w.tree c l ≡ Some (of_group x)
      under zero tells = absurd (none-some x tells)
      under (suc l) tells = group_child w.tree c l ∙ ap (option_map of_group) tells

  pub store_told : EventsTold w.tree (scene_of (walked w c k stages.Store))
  unfolding new slot
  store_told =
      let top = at_top w.tree c k.level in
      let x = with_event (group_of w (here w c k)) (side w.tree c k.level) (stored_event k.level c k) in
      let y = with_walk (cpu_of w c) (Some (store_next top k)) in
      told_step w.tree (scene_of w) (scene_of (walked w c k stages.Store)) c (here w c k) false (moved_laws w (here w c k) x c y false).changes a.events.told
      (λ z p parent off. inl (was_off w (here w c k) x c y false refl z off))
      (λ z p parent off told. told_or z p parent (was_off w (here w c k) x c y false refl z off) told)
      (λ z p parent off head. absurd (no_heading w c k a is stages.Store e refl z head))
      (λ z p parent off q. own_or z p parent (said w c k a is stages.Store e z q))
