-- a step of a walk keeps it
use Rattle.std.proofs.Common.{◌≡◌, inl, inr, ℕ, zero, suc, ◌+◌, ◌<◌, min, Bool, true, false, true≢false, cond, length, Option, Some, None, refl, sym, ap, ◌∙◌, subst, arith}
use Rattle.std.specs.Prelude.{◌==◌, ◌&&◌, not, option_map, unwrap_or}
use Rattle.std.proofs.lemmas.Option.{none-some, same_Some}
use Rattle.tm_base.specs.declared.names.TheConstants.{NEVER}
use Rattle.event_queue.specs.declared.event.Event.{Event}
use Rattle.event_queue.specs.EventMap.{marked_slot}
use Rattle.cpu_bases.specs.CpuBases.{events_of}
use Rattle.tree_plan.specs.Shape.{Shape}
use Rattle.tree_plan.specs.Paths.{group_at_of}
use Rattle.walk_rules.specs.declared.walk.Walk.{Walk}
use Rattle.walk_rules.specs.declared.walk.WalkKind.{WalkKind}
use Rattle.walk_rules.specs.declared.walk.WalkKind.TheVariants as kinds
use Rattle.walk_rules.specs.declared.walk.Stage.{Stage}
use Rattle.walk_rules.specs.declared.walk.Stage.TheVariants as stages
use Rattle.walk_rules.specs.Hierarchy.{HasGroup, IsHierarchy, at_top, group_on, side}
use Rattle.walk_rules.specs.Scene.{Group}
use Rattle.walk_rules.specs.Stages.{after_sight, at_stage, first_lock, first_sight, forget, free_group_next, freed_next, is_remote, leaf_event, left_by, mark_next, see_child_next, store_next, stored_event, swap_next, up_next, with_event, with_mark}
use Rattle.walk_rules.specs.Standing.{FitsStage, IsWalker, Tells}
use Rattle.core_world.specs.Enabled.{MayGoOn}
use Rattle.core_world.specs.Frames.{IsSized}
use Rattle.core_world.specs.Steps.{child_on, finished, here, swapped, walked, with_walk}
use Rattle.core_world.specs.Timers.{TimersHold}
use Rattle.core_world.specs.Wakeups.{Keeps, is_past_store, is_undisturbed, next_for}
use Rattle.core_world.specs.World.{CpuRecord, World, cpu_of, group_of, is_active, moved, own, scene_of}
use Rattle.core_laws.specs.Walks.Fit.{WalksFit}
use Rattle.core_laws.proofs.Walks.Stands.{leaf_or, stage_fits, stands_in}
use Rattle.core_laws.specs.Edges.Layer.{EdgesFit}
use Rattle.core_laws.specs.Cpus.Layer.{CpusFit}
use Rattle.core_laws.specs.Wakeups.Layer.{WakeupsFit}
use Rattle.core_laws.proofs.Wakeups.Leaves.{slot_of, slot_written, slots_else}
use Rattle.core_laws.proofs.Wakeups.Owed.{HasToldLeaf, IsEnough, WakesWell, free_wakes, moved_wakes, own_wakes, same_wakes, told_enough, wakes_of}

-- what a walk keeps as it goes on: it has told its leaf only if it had before
record GoesOn (k j : Walk) : Type 0 where
  kind : j.kind ≡ k.kind
  next : j.next ≡ k.next
  told : HasToldLeaf j → HasToldLeaf k

onwards : (k j : Walk) → j.kind ≡ k.kind → j.next ≡ k.next → j.level ≡ k.level → (is_past_store j.stage ≡ true → HasToldLeaf k) → GoesOn k j
onwards k j kind next level past = record {
  kind = kind;
  next = next;
  told = λ t. elim t [ inl high ↦ inl (omega (arith, high, level)) | inr stage ↦ past stage ];
}

never_past : (k : Walk) (st : Stage) → is_past_store st ≡ false → is_past_store st ≡ true → HasToldLeaf k
never_past k st early past = absurd (true≢false (sym past ∙ early))

lock_early : (l : ℕ) → is_past_store (first_lock l) ≡ false
lock_early zero = refl
lock_early (suc l) = refl

sight_early : (l : ℕ) → is_past_store (first_sight l) ≡ false
sight_early zero = refl
sight_early (suc l) = refl

after_early : (l : ℕ) → is_past_store (after_sight l) ≡ false
after_early zero = refl
after_early (suc l) = refl

scan_early : (b : Bool) (j : ℕ) → is_past_store (cond b stages.Store (stages.Scan (j + 1))) ≡ false
scan_early true j = refl
scan_early false j = refl

freed_on : (over : Bool) (k : Walk) → HasToldLeaf k → GoesOn k (freed_next over k)
freed_on true k told = record { kind = refl; next = refl; told = λ _. told }
freed_on false k told = record { kind = refl; next = refl; told = λ _. told }

free_on : (l : ℕ) (k : Walk) → HasToldLeaf k → GoesOn k (free_group_next l k)
free_on zero k told = freed_on k.over k told
free_on (suc l) k told = record { kind = refl; next = refl; told = λ _. told }

see_child_on : (on : Bool) (k : Walk) → 0 < k.level → GoesOn k (see_child_next on k)
see_child_on true k high = record { kind = refl; next = refl; told = λ _. inl high }
see_child_on false k high = record { kind = refl; next = refl; told = λ _. inl high }

path_on : (m : Option ℕ) → (p : ℕ) × (m ≡ Some p) → m ≡ Some (unwrap_or m 0)
path_on None p = absurd (none-some p.0 p.1)
path_on (Some g) p = refl

idle_not_active : (online idle : Bool) → idle ≡ true → (online && not idle) ≡ true → ⊥
idle_not_active true true e act = true≢false (sym act)
idle_not_active false true e act = true≢false (sym act)
idle_not_active online false e act = true≢false (sym e)

leaving_events : (on : Bool) (x : Group) (k : ℕ) → (left_by on x k).events ≡ x.events
leaving_events true x k = refl
leaving_events false x k = refl

-- a CPU that is active keeps no wakeup, and its walk is an activation
active_wakes : (t : Shape) (c : ℕ) (y : CpuRecord) (slot : Option Event) → is_active y ≡ true → ((k : Walk) → y.walk ≡ Some k → k.kind ≡ kinds.Activate) → WakesWell t c y slot
active_wakes t c y slot act kind = record {
  enough = λ keeps. absurd (idle_not_active y.online y.idle keeps.idle act);
  told = λ k is tells g past. absurd (tells (kind k is));
}

next_remote : (kind : WalkKind) (next : ℕ) → is_remote kind ≡ true → next_for kind next ≡ next
next_remote kinds.Activate next remote = refl
next_remote kinds.Deactivate next remote = refl
next_remote kinds.Offline next remote = absurd (true≢false (sym remote))
next_remote kinds.Reeval next remote = refl
next_remote (kinds.Remote by) next remote = refl

-- an offline CPU keeps none
offline_wakes : (t : Shape) (c : ℕ) (y : CpuRecord) (slot : Option Event) → y.online ≡ false
    → ((k : Walk) → y.walk ≡ Some k → Tells k.kind → HasGroup t c → HasToldLeaf k → slot ≡ leaf_event c k.next) → WakesWell t c y slot
offline_wakes t c y slot off told = record { enough = λ keeps. absurd (true≢false (sym keeps.online ∙ off)); told = told }

module _ (w : World) (c : ℕ) (k : Walk) (hc : c < length w.cpus) (h : IsHierarchy w.tree) (sized : IsSized w) (timers : TimersHold w)
    (walks : WalksFit w.tree (scene_of w)) (edges : EdgesFit w.tree (scene_of w)) (cpus : CpusFit w) (f : WakeupsFit w) (is : (cpu_of w c).walk ≡ Some k) where
  now : WakesWell w.tree c (cpu_of w c) (slot_of w c)
  now = wakes_of w f c

  seen : (scene_of w).walk c ≡ Some (forget k)
  seen = ap (option_map forget) is

  walker : IsWalker k.kind (cpu_of w c).online (cpu_of w c).idle
  walker = walks.walkers c (forget k) seen

  fits_here : (st : Stage) → k.stage ≡ st → (st ≡ stages.Finish → ⊥) → FitsStage w.tree c k.kind k.level st
  fits_here st e other = elim (stage_fits w.tree (scene_of w) walks c (forget k) seen) [
    | inl fits ↦ subst (FitsStage w.tree c k.kind k.level) e fits
    | inr finishing ↦ absurd (other (sym e ∙ finishing))
  ]

  stands_here : (st : Stage) → k.stage ≡ st → (st ≡ stages.Finish → ⊥) → group_at_of w.tree c k.level ≡ Some (here w c k)
  stands_here st e other = path_on (group_at_of w.tree c k.level) (stands_in w.tree (scene_of w) walks c (forget k) seen (λ finishing. other (sym e ∙ finishing)))

  -- the walk goes on, and its CPU's leaf event stays
  goes_on : (j : Walk) → GoesOn k j → WakesWell w.tree c (with_walk (cpu_of w c) (Some j)) (slot_of w c)
  goes_on j on = record {
    enough = λ keeps. now.enough (record {
      online = keeps.online;
      idle = keeps.idle;
      outside = keeps.outside;
      undisturbed = ap is_undisturbed is ∙ (sym (ap is_remote on.kind) ∙ keeps.undisturbed);
    });
    told = λ i at tells g past. (let same = same_Some j i at in
        let tells_j = subst (λ (z : Walk). Tells z.kind) (sym same) tells in
        let past_j = subst (λ (z : Walk). HasToldLeaf z) (sym same) past in
        now.told k is (subst Tells on.kind tells_j) g (on.told past_j) ∙ (ap (leaf_event c) (sym on.next) ∙ ap (λ (z : Walk). leaf_event c z.next) same));
  }

  walks_alone : (j : Walk) → GoesOn k j → WakeupsFit (own w c (with_walk (cpu_of w c) (Some j)))
  walks_alone j on = own_wakes w c (with_walk (cpu_of w c) (Some j)) hc f (goes_on j on)

  walks_in : (g : ℕ) (x : Group) (j : Walk) (r : Bool) → x.events ≡ (group_of w g).events → GoesOn k j → WakeupsFit (moved w g x c (with_walk (cpu_of w c) (Some j)) r)
  walks_in g x j r e on = same_wakes w g x c (with_walk (cpu_of w c) (Some j)) r hc f e (goes_on j on)

  -- ACTIVATIONS
  active_now : k.kind ≡ kinds.Activate → is_active (cpu_of w c) ≡ true
  active_now kind = edges.edges.active c (forget k) seen kind

  activating : (m : Option Walk) (slot : Option Event) → k.kind ≡ kinds.Activate → ((j : Walk) → m ≡ Some j → j.kind ≡ k.kind) → WakesWell w.tree c (with_walk (cpu_of w c) m) slot
  activating m slot kind same = active_wakes w.tree c (with_walk (cpu_of w c) m) slot (active_now kind) (λ j at. same j at ∙ kind)

  up_kind : (top more : Bool) (j : Walk) → up_next top more k ≡ Some j → j.kind ≡ k.kind
  up_kind true more j at = absurd (none-some j at)
  up_kind false more j at = sym (ap (λ (z : Walk). z.kind) (same_Some _ _ at))

  mark_kind : (more : Bool) (j : Walk) → mark_next more k ≡ Some j → j.kind ≡ k.kind
  mark_kind false j at = absurd (none-some j at)
  mark_kind true j at = sym (ap (λ (z : Walk). z.kind) (same_Some _ _ at))

  some_kind : (i : Walk) → i.kind ≡ k.kind → (j : Walk) → ◌≡◌ {A = Option Walk} (Some i) (Some j) → j.kind ≡ k.kind
  some_kind i e j at = sym (ap (λ (z : Walk). z.kind) (same_Some _ _ at)) ∙ e

  -- an activation marks an event of its path
  marks : (l : ℕ) (m : Option Walk) → k.kind ≡ kinds.Activate → group_at_of w.tree c l ≡ Some (group_on w.tree c l) → ((j : Walk) → m ≡ Some j → j.kind ≡ k.kind)
      → WakeupsFit (moved w (group_on w.tree c l) (with_mark (group_of w (group_on w.tree c l)) (side w.tree c l)) c (with_walk (cpu_of w c) m) false)
  marks l m kind path same =
      let x : Group = with_mark (group_of w (group_on w.tree c l)) (side w.tree c l) in
      moved_wakes w (group_on w.tree c l) x c (with_walk (cpu_of w c) m) false hc f
      (λ d ne. slots_else w (group_on w.tree c l) x c (with_walk (cpu_of w c) m) false h l path (marked_slot (group_of w (group_on w.tree c l)).events (side w.tree c l)) refl d (inl ne))
      (activating m _ kind same)

  -- STORE
  abbrev stored : Group
  stored = with_event (group_of w (here w c k)) (side w.tree c k.level) (stored_event k.level c k)

  abbrev storing : CpuRecord
  storing = with_walk (cpu_of w c) (Some (store_next (at_top w.tree c k.level) k))

  store_low : (slot : Option Event) → slot ≡ leaf_event c k.next → WakesWell w.tree c storing slot
  store_low slot at = record {
    enough = λ keeps. (let was : Keeps (cpu_of w c) = record { online = keeps.online; idle = keeps.idle; outside = keeps.outside; undisturbed = ap is_undisturbed is ∙ keeps.undisturbed } in
        told_enough c (cpu_of w c).wakeup k.next (cpu_of w c).bases slot (timers.consistent c) ((cpus.times c k is).next ∙ next_remote k.kind _ keeps.undisturbed)
        (now.enough was).pinned (inl at));
    told = λ j e tells g past. at ∙ ap (λ (z : Walk). leaf_event c z.next) (same_Some _ _ e);
  }

  store_at : k.stage ≡ stages.Store → (l : ℕ) → k.level ≡ l → WakesWell w.tree c storing (slot_of (moved w (here w c k) stored c storing false) c)
  store_at e zero low =
      let path = stands_here stages.Store e (λ z. cc) in
      store_low (slot_of (moved w (here w c k) stored c storing false) c)
      (slot_written w (here w c k) stored c storing false h k.level path (stored_event k.level c k) refl sized low ∙ ap (λ l. stored_event l c k) low)
  store_at e (suc l) high =
      let path = stands_here stages.Store e (λ z. cc) in
      let above : 0 < k.level = omega (arith, high) in
      subst (WakesWell w.tree c storing) (sym (slots_else w (here w c k) stored c storing false h k.level path (stored_event k.level c k) refl c (inr above)))
      (goes_on (store_next (at_top w.tree c k.level) k) (record { kind = refl; next = refl; told = λ _. inl above }))

  store : k.stage ≡ stages.Store → WakeupsFit (moved w (here w c k) stored c storing false)
  store e =
      let path = stands_here stages.Store e (λ z. cc) in
      moved_wakes w (here w c k) stored c storing false hc f
      (λ d ne. slots_else w (here w c k) stored c storing false h k.level path (stored_event k.level c k) refl d (inl ne)) (store_at e k.level refl)

  -- FINISH
  ends_well : k.stage ≡ stages.Finish → k.next ≡ (events_of (cpu_of w c).bases).next → Tells k.kind → IsEnough (min k.pin k.first) (cpu_of w c).bases (slot_of w c)
  ends_well e next tells =
      let pin = (cpus.times c k is).pin in
      told_enough c (min k.pin k.first) k.next (cpu_of w c).bases (slot_of w c) (timers.consistent c) next (omega (arith, pin))
      (elim (leaf_or (group_at_of w.tree c 0)) [
        | inl g ↦ inl (now.told k is tells g (inr (ap is_past_store e)))
        | inr none ↦ let own = (walks.placed.alone c (forget k) seen (λ g. none-some g.0 (sym none ∙ g.1))).own in inr (omega (arith, own))
      ])

  offline_end : (b : Bool) → k.stage ≡ stages.Finish → k.kind ≡ kinds.Offline → (cpu_of w c).online ≡ false
      → WakesWell w.tree c (with_walk (cpu_of w c) (cond b None (Some (at_stage k stages.Handing)))) (slot_of w c)
  offline_end true e kind off = offline_wakes w.tree c (with_walk (cpu_of w c) None) (slot_of w c) off (λ j at. absurd (none-some j at))
  offline_end false e kind off = offline_wakes w.tree c (with_walk (cpu_of w c) (Some (at_stage k stages.Handing))) (slot_of w c) off
      (λ j at tells g past. now.told k is (λ act. let two = sym act ∙ kind in absurd (cc)) g (inr (ap is_past_store e)) ∙ ap (λ (z : Walk). leaf_event c z.next) (same_Some _ _ at))

  finish : (kind : WalkKind) → k.kind ≡ kind → k.stage ≡ stages.Finish → WakeupsFit (own w c (finished (cpu_of w c) k kind))
  finish kinds.Activate same e = own_wakes w c (with_walk (cpu_of w c) None) hc f (activating None (slot_of w c) same (λ j at. absurd (none-some j at)))
  finish kinds.Deactivate same e = own_wakes w c (finished (cpu_of w c) k kinds.Deactivate) hc f
      (free_wakes w.tree c (finished (cpu_of w c) k kinds.Deactivate) (slot_of w c) refl
      (λ _. ends_well e ((cpus.times c k is).next ∙ ap (λ z. next_for z (events_of (cpu_of w c).bases).next) same) (λ act. cc)))
  finish kinds.Offline same e = own_wakes w c (finished (cpu_of w c) k kinds.Offline) hc f
      (offline_end (k.first == NEVER) e same (subst (λ z. IsWalker z (cpu_of w c).online (cpu_of w c).idle) same walker))
  finish kinds.Reeval same e = own_wakes w c (finished (cpu_of w c) k kinds.Reeval) hc f
      (free_wakes w.tree c (finished (cpu_of w c) k kinds.Reeval) (slot_of w c) refl
      (λ _. ends_well e ((cpus.times c k is).next ∙ ap (λ z. next_for z (events_of (cpu_of w c).bases).next) same) (λ act. cc)))
  finish (kinds.Remote by) same e = own_wakes w c (finished (cpu_of w c) k (kinds.Remote by)) hc f
      (free_wakes w.tree c (finished (cpu_of w c) k (kinds.Remote by)) (slot_of w c) refl
      (λ keeps. now.enough (record { online = keeps.online; idle = keeps.idle; outside = keeps.outside; undisturbed = ap is_undisturbed is ∙ ap is_remote same })))

  swap_wakes : (fresh : Bool) → WakeupsFit (swapped w c k fresh)
  swap_wakes true = walks_in (here w c k) _ (swap_next true k) true (leaving_events k.child_on (group_of w (here w c k)) (side w.tree c k.level))
      (onwards k (swap_next true k) refl refl refl (never_past k (first_lock k.level) (lock_early k.level)))
  swap_wakes false = walks_alone (swap_next false k) (onwards k (swap_next false k) refl refl refl (never_past k stages.Child refl))

  -- EACH STAGE
  pub by_stage : (st : Stage) → k.stage ≡ st → MayGoOn w c k st → WakeupsFit (walked w c k st)
  by_stage stages.Own e may =
      let fits = fits_here stages.Own e (λ z. cc) in
      let path = stands_here stages.Own e (λ z. cc) in
      marks 0 (Some (at_stage k stages.Up)) fits.0 (path_on (group_at_of w.tree c 0) (here w c k, subst (λ l. group_at_of w.tree c l ≡ Some (here w c k)) fits.1 path)) (some_kind (at_stage k stages.Up) refl)
  by_stage stages.Up e may = same_wakes w (here w c k) _ c _ true hc f refl (activating _ (slot_of w c) (fits_here stages.Up e (λ z. cc)) (up_kind _ _))
  by_stage (stages.Mark more) e may =
      let fits = fits_here (stages.Mark more) e (λ z. cc) in
      marks (suc k.level) (mark_next more k) fits.0 (path_on (group_at_of w.tree c (suc k.level)) fits.1) (mark_kind more)
  by_stage stages.Read e may = walks_alone _ (onwards k _ refl refl refl (never_past k stages.Child refl))
  by_stage stages.Child e may = walks_alone _ (onwards k _ refl refl refl (never_past k stages.Swap refl))
  by_stage stages.Swap e may = swap_wakes k.fresh
  by_stage stages.LockChild e may = walks_in _ _ _ false refl (onwards k _ refl refl refl (never_past k stages.LockGroup refl))
  by_stage stages.LockGroup e may = walks_in _ _ _ false refl (onwards k _ refl refl refl (never_past k (first_sight k.level) (sight_early k.level)))
  by_stage stages.SeeChild e may = walks_alone _ (see_child_on (child_on w c k.level) k (fits_here stages.SeeChild e (λ z. cc)).1)
  by_stage stages.SeeGroup e may = walks_alone _ (onwards k _ refl refl refl (never_past k (after_sight k.level) (after_early k.level)))
  by_stage (stages.Scan j) e may = walks_alone _ (onwards k _ refl refl refl (never_past k (cond (j == 7) stages.Store (stages.Scan (j + 1))) (scan_early (j == 7) j)))
  by_stage stages.Store e may = store e
  by_stage (stages.First j) e may = walks_alone _ (record { kind = refl; next = refl; told = λ _. inr (ap is_past_store e) })
  by_stage stages.FreeGroup e may = walks_in _ _ _ false refl (free_on k.level k (inr (ap is_past_store e)))
  by_stage stages.FreeChild e may = walks_in _ _ _ false refl (freed_on k.over k (inr (ap is_past_store e)))
  by_stage stages.Finish e may = finish k.kind refl e
  by_stage stages.Handing e may = absurd may

  -- HANDING ON
  pub hands_on : k.stage ≡ stages.Handing → WakeupsFit (own w c (with_walk (cpu_of w c) None))
  hands_on e =
      let off : (cpu_of w c).online ≡ false = subst (λ z. IsWalker z (cpu_of w c).online (cpu_of w c).idle) (fits_here stages.Handing e (λ z. cc)) walker in
      own_wakes w c (with_walk (cpu_of w c) None) hc f (offline_wakes w.tree c (with_walk (cpu_of w c) None) (slot_of w c) off (λ j at. absurd (none-some j at)))
