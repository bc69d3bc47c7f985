-- every step keeps where times and events come from
use Rattle.std.proofs.Common.{◌≡◌, ℕ, zero, suc, ◌-◌, ◌<◌, Bool, true, false, cond, length, get_or}
use Rattle.std.proofs.Common.{set, Option, Some, None, refl, sym, ap, ◌∙◌, subst, inl, inr, arith}
use Rattle.std.specs.Prelude.{◌==◌, is_some, min, option_map, unwrap_or}
use Rattle.std.proofs.lemmas.Bool.{cases_eq}
use Rattle.std.proofs.lemmas.List.{get_or-set_same, get_or-set_other}
use Rattle.std.proofs.lemmas.Option.{none-some, same_Some}
use Rattle.std.proofs.Math.ListN.{length-set}
use Rattle.tm_base.specs.declared.names.TheConstants.{NEVER}
use Rattle.tm_base.specs.declared.names.Class.{Class}
use Rattle.event_queue.specs.declared.event.Event.{Event}
use Rattle.event_queue.specs.EventMap.{event_at}
use Rattle.wheel_core.specs.declared.item.Item.{Item}
use Rattle.cpu_bases.specs.CpuBases.{CpuBases, class_in, events_of}
use Rattle.tree_plan.specs.Paths.{group_at_of}
use Rattle.walk_rules.specs.declared.walk.Walk.{Walk}
use Rattle.walk_rules.specs.declared.walk.WalkKind.{WalkKind}
use Rattle.walk_rules.specs.declared.walk.WalkKind.TheVariants as kinds
use Rattle.walk_rules.specs.declared.walk.Stage.{Stage}
use Rattle.walk_rules.specs.declared.walk.Stage.TheVariants as stages
use Rattle.walk_rules.specs.Hierarchy.{IsHierarchy, group_on, side}
use Rattle.walk_rules.specs.Queues.{group_under}
use Rattle.walk_rules.specs.Scene.{Group}
use Rattle.walk_rules.specs.Stages.{at_stage, first_next, forget, left_by, scan_next, swap_next}
use Rattle.core_world.specs.declared.step.Step.TheVariants as steps
use Rattle.core_world.specs.Origins.{HasOrigin, IsBelowGroup}
use Rattle.core_world.specs.Steps.{child_here, child_on, finished, first_moved, giver}
use Rattle.walk_rules.specs.Stages.{begun_where}
use Rattle.core_world.specs.Steps.{here, moved_with, swapped, taker, walk_made, walked, with_bases}
use Rattle.core_world.specs.Steps.{with_walk}
use Rattle.core_world.specs.World.{CpuRecord, World, cpu_of, group_of, moved, no_cpu, own, scene_of}
use Rattle.core_world.proofs.Moves.{cpu_else, cpu_same, moved_laws}
use Rattle.core_world.proofs.Quiet.{own_field, own_group}
use Rattle.core_laws.specs.Walks.Fit.{WalksFit}
use Rattle.core_laws.proofs.Walks.Stands.{stands_in}
use Rattle.core_laws.specs.Timers.Layer.{TimersFit}
use Rattle.core_laws.specs.Origins.Layer.{OriginsFit, OriginsStayFit}
use Rattle.core_laws.proofs.Origins.Grow.{Grows, armed_grows, cancelled_grows, handed_of_grows}
use Rattle.core_laws.proofs.Origins.Grow.{handed_out_grows, moved_in_grows, moved_out_grows}
use Rattle.core_laws.proofs.Origins.Frame.{EventHas, WalkHas, have_all, kept_origins, moved_origins}
use Rattle.core_laws.proofs.Origins.Slots.{mark_has, store_has}
use Rattle.core_laws.proofs.Origins.Walks.{CarriesOn, begun, carried, first_is, free_on, freed_on}
use Rattle.core_laws.proofs.Origins.Walks.{mark_on, min_origin, next_origin, pin_origin, see_on}
use Rattle.core_laws.proofs.Origins.Walks.{sooner_is, stays_there, up_on}

-- the event of a slot of a group is below the group
below_group : (w : World) (g j : ℕ) (e : Event) → EventHas w g j e → IsBelowGroup w g e
below_group w g j e h = record { level = h.below.level; there = h.below.into }

-- STEPS OF WALKS
module _ (w : World) (c : ℕ) (k : Walk) (hc : c < length w.cpus) (h : IsHierarchy w.tree)
    (walks : WalksFit w.tree (scene_of w)) (f : OriginsFit w) (is : (cpu_of w c).walk ≡ Some k)
  where
    has : WalkHas w c k
    has = (have_all w f).walks c k is

    -- a walk that goes on, where its group's events come from somewhere
    goes : (g : ℕ) (x : Group) (m : Option Walk) (r : Bool)
        → ((j : ℕ) (e : Event) → event_at x.events j ≡ Some e → EventHas w g j e)
        → ((j : Walk) → m ≡ Some j → CarriesOn k j) → OriginsFit
        (moved w g x c (with_walk (cpu_of w c) m) r)
    goes g x m r events on = moved_origins w g x c (with_walk (cpu_of w c) m) r hc f refl
        (f.times.wakeups c hc) (λ j e. carried w c k j has (on j e)) events

    goes_to : (g : ℕ) (x : Group) (j : Walk) (r : Bool)
        → ((i : ℕ) (e : Event) → event_at x.events i ≡ Some e → EventHas w g i e) → CarriesOn k j
        → OriginsFit (moved w g x c (with_walk (cpu_of w c) (Some j)) r)
    goes_to g x j r events on = goes g x (Some j) r events
        (λ i e. subst (CarriesOn k) (same_Some _ _ e) on)

    same_events : (g : ℕ) (j : ℕ) (e : Event) → event_at (group_of w g).events j ≡ Some e
        → EventHas w g j e
    same_events = (have_all w f).events

    -- that leaves the groups
    alone : (j : Walk) → CarriesOn k j → OriginsFit (own w c (with_walk (cpu_of w c) (Some j)))
    alone j on = goes_to 0 (group_of w 0) j false (same_events 0) on

    becomes : (j : Walk) → WalkHas w c j → OriginsFit (own w c (with_walk (cpu_of w c) (Some j)))
    becomes j new = moved_origins w 0 (group_of w 0) c (with_walk (cpu_of w c) (Some j)) false hc f
        refl (f.times.wakeups c hc) (λ i e. subst (WalkHas w c) (same_Some _ _ e) new)
        (same_events 0)

    ends : OriginsFit (own w c (with_walk (cpu_of w c) None))
    ends = goes 0 (group_of w 0) None false (same_events 0) (λ j e. absurd (none-some j e))

    -- SCAN reads a slot of the group below
    scan : (j : ℕ) → OriginsFit (own w c (with_walk (cpu_of w c)
        (Some (scan_next (event_at (group_of w (child_here w c k)).events j) j k))))
    scan j =
        let slot : Option Event = event_at (group_of w (child_here w c k)).events j in
        becomes (scan_next slot j k) (record {
          times = record { pin = has.times.pin; next = has.times.next; first = has.times.first };
          best = λ e b. elim (sooner_is k.best slot e b) [
            | inl was ↦ has.best e was
            | inr new ↦ (same_events (child_here w c k) j e new).expiry
          ];
          below = λ g e b under. elim (sooner_is k.best slot e b) [
            | inl was ↦ has.below g e was under
            | inr new ↦ subst (λ n. IsBelowGroup w n e) (named k.level refl g under)
                (below_group w (child_here w c k) j e (same_events (child_here w c k) j e new))
          ];
        })
      where
        named : (l : ℕ) → l ≡ k.level → (g : ℕ) → group_under w.tree c l ≡ Some g
            → child_here w c k ≡ g
        named zero level g under = absurd (none-some g under)
        named (suc l) level g under =
            let low : k.level - 1 ≡ l = omega arith in
            ap (group_on w.tree c) low ∙ ap (λ m. unwrap_or m 0) under

    -- FIRST reads a slot of its group
    first : (j : ℕ) → OriginsFit (own w c (with_walk (cpu_of w c)
        (Some (first_next (event_at (group_of w (here w c k)).events j) j k))))
    first j =
        becomes (first_next (event_at (group_of w (here w c k)).events j) j k) (record {
          times = record {
            pin = has.times.pin;
            next = has.times.next;
            first = first_is w k.first (event_at (group_of w (here w c k)).events j) has.times.first
                (λ e new. (same_events (here w c k) j e new).expiry);
          };
          best = has.best;
          below = has.below;
        })

    -- STORE writes into its group
    store : k.stage ≡ stages.Store → OriginsFit (walked w c k stages.Store)
    store e =
        let at = stands_in w.tree (scene_of w) walks c (forget k) (ap (option_map forget) is)
        (λ finish. apart (sym e ∙ finish)) in
        let there : group_at_of w.tree c k.level ≡ Some (here w c k) =
        at.1 ∙ ap Some (sym (ap (λ m. unwrap_or m 0) at.1)) in
        goes_to (here w c k) _ _ false (store_has w h c (here w c k) k has (have_all w f) there)
        (stays_there k _ refl refl refl refl refl)
      where
        apart : ◌≡◌ {A = Stage} stages.Store stages.Finish → ⊥
        apart e = cc

    swap : (fresh : Bool) → OriginsFit (swapped w c k fresh)
    swap true = swap_out k.child_on
      where
        swap_out : (on : Bool) → OriginsFit (moved w (here w c k)
            (left_by on (group_of w (here w c k)) (side w.tree c k.level)) c
            (with_walk (cpu_of w c) (Some (swap_next true k))) true)
        swap_out true = goes_to (here w c k) _ (swap_next true k) true (same_events (here w c k))
            (stays_there k (swap_next true k) refl refl refl refl refl)
        swap_out false = goes_to (here w c k) _ (swap_next true k) true (same_events (here w c k))
            (stays_there k (swap_next true k) refl refl refl refl refl)
    swap false = alone (swap_next false k) (stays_there k (swap_next false k) refl refl refl refl
        refl)

    told : HasOrigin w (min k.pin k.first)
    told = min_origin w k.pin k.first has.times.pin has.times.first

    finish : (kind : WalkKind) → OriginsFit (own w c (finished (cpu_of w c) k kind))
    finish kinds.Activate = ends
    finish kinds.Deactivate = moved_origins w 0 (group_of w 0) c
        (finished (cpu_of w c) k kinds.Deactivate) false hc f refl told
        (λ j e. absurd (none-some j e)) (same_events 0)
    finish kinds.Offline = handing (k.first == NEVER)
      where
        handing : (q : Bool) → OriginsFit (own w c (with_walk (cpu_of w c)
            (cond q None (Some (at_stage k stages.Handing)))))
        handing true = ends
        handing false = alone (at_stage k stages.Handing) (stays_there k (at_stage k stages.Handing)
            refl refl refl refl refl)
    finish kinds.Reeval = moved_origins w 0 (group_of w 0) c (finished (cpu_of w c) k kinds.Reeval)
        false hc f refl told (λ j e. absurd (none-some j e)) (same_events 0)
    finish (kinds.Remote by) = moved_origins w 0 (group_of w 0) c
        (finished (cpu_of w c) k (kinds.Remote by)) false hc f refl (f.times.wakeups c hc)
        (λ j e. absurd (none-some j e)) (same_events 0)

    by_stage : (st : Stage) → k.stage ≡ st → OriginsFit (walked w c k st)
    by_stage stages.Own e = goes_to (group_on w.tree c 0) _ _ false
        (mark_has w (have_all w f) (group_on w.tree c 0) (side w.tree c 0))
        (stays_there k _ refl refl refl refl refl)
    by_stage stages.Up e = goes (here w c k) _ _ true (same_events (here w c k)) (up_on _ _ k)
    by_stage (stages.Mark more) e = goes (group_on w.tree c (suc k.level)) _ _ false
        (mark_has w (have_all w f) (group_on w.tree c (suc k.level)) (side w.tree c (suc k.level)))
        (mark_on more k)
    by_stage stages.Read e = alone _ (stays_there k _ refl refl refl refl refl)
    by_stage stages.Child e = alone _ (stays_there k _ refl refl refl refl refl)
    by_stage stages.Swap e = swap k.fresh
    by_stage stages.LockChild e = goes_to (child_here w c k) _ _ false
        (same_events (child_here w c k)) (stays_there k _ refl refl refl refl refl)
    by_stage stages.LockGroup e = goes_to (here w c k) _ _ false (same_events (here w c k))
        (stays_there k _ refl refl refl refl refl)
    by_stage stages.SeeChild e = alone _ (see_on (child_on w c k.level) k)
    by_stage stages.SeeGroup e = alone _ (stays_there k _ refl refl refl refl refl)
    by_stage (stages.Scan j) e = scan j
    by_stage stages.Store e = store e
    by_stage (stages.First j) e = first j
    by_stage stages.FreeGroup e = goes_to (here w c k) _ _ false (same_events (here w c k))
        (free_on k.level k)
    by_stage stages.FreeChild e = goes_to (child_here w c k) _ _ false
        (same_events (child_here w c k)) (freed_on k.over k)
    by_stage stages.Finish e = finish k.kind
    by_stage stages.Handing e = f

-- STEPS OF TIMERS: the CPU's journal grows
based : (w : World) (c : ℕ) (bases : CpuBases) → c < length w.cpus → OriginsFit w
    → Grows (cpu_of w c).bases bases → OriginsFit (own w c (with_bases (cpu_of w c) bases))
based w c bases hc f grows =
    let y : CpuRecord = with_bases (cpu_of w c) bases in
    kept_origins w (own w c y) refl
    (record {
      each = λ d. elim (cases_eq d c) [
        | inl same ↦ subst (λ n. Grows (cpu_of w n).bases (cpu_of (own w c y) n).bases) (sym same)
            (subst (λ (z : CpuRecord). Grows (cpu_of w c).bases z.bases)
            (sym (cpu_same w 0 (group_of w 0) c y false hc)) grows)
        | inr ne ↦ subst (λ (z : CpuRecord). Grows (cpu_of w d).bases z.bases)
            (sym (cpu_else w 0 (group_of w 0) c y false d ne)) (λ entry there. there)
      ];
    })
    (moved_laws w 0 (group_of w 0) c y false).cpus (own_field w c y hc (λ z. z.wakeup) refl)
    (own_field w c y hc (λ z. z.walk) refl) (own_group w c y) f

-- A STEP that leaves its CPU's wakeup, walk and timers
kept : (w : World) (c : ℕ) (y : CpuRecord) → c < length w.cpus → OriginsFit w
    → y.wakeup ≡ (cpu_of w c).wakeup → y.walk ≡ (cpu_of w c).walk → y.bases ≡ (cpu_of w c).bases
    → OriginsFit (own w c y)
kept w c y hc f wakeup walk bases = moved_origins w 0 (group_of w 0) c y false hc f bases
    (subst (HasOrigin w) (sym wakeup) (f.times.wakeups c hc))
    (λ k e. (have_all w f).walks c k (sym walk ∙ e)) ((have_all w f).events 0)

-- A STEP that begins a walk
begins : (w : World) (c : ℕ) (y : CpuRecord) (q : Bool) (kind : WalkKind) (stage : Stage) (next : ℕ)
    → c < length w.cpus → TimersFit w → OriginsFit w → y.walk ≡ begun_where q kind stage
    (events_of (cpu_of w c).bases).pin next
    → HasOrigin w next → HasOrigin w y.wakeup → y.bases ≡ (cpu_of w c).bases
    → OriginsFit (own w c y)
begins w c y q kind stage next hc t f walk told wakeup bases =
    moved_origins w 0 (group_of w 0) c y false hc f bases wakeup
    (λ k e. begun w c q kind stage _ next (pin_origin w t c) told k (sym walk ∙ e))
    ((have_all w f).events 0)

-- MOVE: both journals grow
module _ (w : World) (from to : ℕ) (class : Class) (item : Item) (hf : from < length w.cpus)
    (ht : to < length w.cpus) where
  each_cpu : (P : CpuRecord → CpuRecord → Type 0) → ((y : CpuRecord) → P y y)
      → P (cpu_of w from) (giver w from to class) → P (cpu_of w to) (taker w to class item)
      → (d : ℕ) → P (cpu_of w d) (cpu_of (moved_with w from to (Some (class, item))) d)
  each_cpu P same gives takes d = elim (cases_eq d to) [
    | inl dt ↦ subst (λ n. P (cpu_of w n) (cpu_of (moved_with w from to (Some (class, item))) n))
        (sym dt)
        (subst (P (cpu_of w to)) (sym (get_or-set_same (set w.cpus from (giver w from to class)) to
        (taker w to class item) no_cpu (omega (
          arith,
          length-set w.cpus from
              (giver w from to class),
        )))) takes)
    | inr dn ↦ subst (P (cpu_of w d)) (sym (get_or-set_other
        (set w.cpus from (giver w from to class)) to d (taker w to class item) no_cpu dn))
        (elim (cases_eq d from) [
          | inl df ↦ subst (λ n. P (cpu_of w n) (get_or (set w.cpus from (giver w from to class)) n
              no_cpu)) (sym df) (subst (P (cpu_of w from)) (sym (get_or-set_same w.cpus from
              (giver w from to class) no_cpu hf)) gives)
          | inr dn' ↦ subst (P (cpu_of w d)) (sym (get_or-set_other w.cpus from d
              (giver w from to class) no_cpu dn')) (same (cpu_of w d))
        ])
  ]

  move_some : OriginsFit w → OriginsFit (moved_with w from to (Some (class, item)))
  move_some f = kept_origins w (moved_with w from to (Some (class, item))) refl
      (record {
        each = each_cpu (λ y z. Grows y.bases z.bases) (λ y entry there. there)
            (moved_out_grows w.clock class (record { 0 = to }) (cpu_of w from).bases)
            (moved_in_grows w.clock class item.id item.expires item.job item.arg (record { 0 = to })
            (cpu_of w to).bases);
      })
      (length-set (set w.cpus from (giver w from to class)) to (taker w to class item)
      ∙ length-set w.cpus from (giver w from to class))
      (each_cpu (λ y z. z.wakeup ≡ y.wakeup) (λ y. refl) refl refl)
      (each_cpu (λ y z. z.walk ≡ y.walk) (λ y. refl) refl refl) (λ g. refl) f

move : (w : World) (from to : ℕ) (m : Option (Class × Item)) → from < length w.cpus
    → to < length w.cpus → OriginsFit w → OriginsFit (moved_with w from to m)
move w from to None hf ht f = f
move w from to (Some m) hf ht f = move_some w from to m.0 m.1 hf ht f

pub origins_stay : OriginsStayFit
origins_stay w (steps.Clock now) h sized walks t f e =
    kept_origins w (record w { clock = now }) refl (record { each = λ c entry there. there }) refl
    (λ d. refl) (λ d. refl) (λ g. refl) f
origins_stay w (steps.Enter cpu) h sized walks t f e =
    kept w cpu.0 _ e.is_free.in_range f refl refl refl
origins_stay w (steps.Leave cpu) h sized walks t f e =
    kept w cpu.0 _ e.is_free.in_range f refl refl refl
origins_stay w (steps.Take cpu by) h sized walks t f e =
    kept w cpu.0 _ e.is_free.in_range f refl refl refl
origins_stay w (steps.Release cpu) h sized walks t f e =
    kept w cpu.0 _ e.is_free.in_range f refl refl refl
origins_stay w (steps.Arm cpu timer class expires job arg line) h sized walks t f e =
    based w cpu.0 _ e.is_free.in_range f (armed_grows w.clock class timer.0 expires job arg line cpu
    (cpu_of w cpu.0).bases)
origins_stay w (steps.Cancel cpu timer by line) h sized walks t f e =
    based w cpu.0 _ e.0.is_free.in_range f (cancelled_grows w.clock timer.0 line by
    (cpu_of w cpu.0).bases)
origins_stay w (steps.Hand cpu timer runner) h sized walks t f e =
    based w cpu.0 _ e.is_free.in_range f (handed_of_grows w.clock
    (class_in timer.0 (cpu_of w cpu.0).bases) runner (cpu_of w cpu.0).bases)
origins_stay w (steps.Ticked cpu class runner) h sized walks t f e =
    based w cpu.0 _ e.is_free.in_range f (handed_out_grows w.clock class runner
    (cpu_of w cpu.0).bases)
origins_stay w (steps.Move from to timer) h sized walks t f e =
    move w from.0 to.0 (first_moved (cpu_of w from.0).bases) e.from_free.in_range e.to_free.in_range
    f
origins_stay w (steps.Idle cpu) h sized walks t f e =
    begins w cpu.0 _ (is_some (group_at_of w.tree cpu.0 0)) kinds.Deactivate stages.Read _
    e.is_free.in_range t f refl (next_origin w t cpu.0) (f.times.wakeups cpu.0 e.is_free.in_range)
    refl
origins_stay w (steps.Wake cpu) h sized walks t f e =
    begins w cpu.0 _ (is_some (group_at_of w.tree cpu.0 0)) kinds.Activate stages.Own _
    e.is_free.in_range t f refl (next_origin w t cpu.0) (inl refl) refl
origins_stay w (steps.Offline cpu) h sized walks t f e =
    begins w cpu.0 _ (is_some (group_at_of w.tree cpu.0 0)) kinds.Offline stages.Read NEVER
    e.is_free.in_range t f refl (inl refl) (f.times.wakeups cpu.0 e.is_free.in_range) refl
origins_stay w (steps.Online cpu) h sized walks t f e =
    begins w cpu.0 _ (is_some (group_at_of w.tree cpu.0 0)) kinds.Activate stages.Own _
    e.is_free.in_range t f refl (next_origin w t cpu.0) (f.times.wakeups cpu.0 e.is_free.in_range)
    refl
origins_stay w (steps.Reeval cpu) h sized walks t f e =
    begins w cpu.0 _ (is_some (group_at_of w.tree cpu.0 0)) kinds.Reeval stages.LockGroup _
    e.is_free.in_range t f refl (next_origin w t cpu.0) (f.times.wakeups cpu.0 e.is_free.in_range)
    refl
origins_stay w (steps.Carry cpu) h sized walks t f e =
    begins w cpu.0 _ (is_some (group_at_of w.tree cpu.0 0)) _ stages.LockGroup _ e.is_free.in_range
    t f refl (next_origin w t cpu.0) (f.times.wakeups cpu.0 e.is_free.in_range) refl
origins_stay w (steps.Walk cpu) h sized walks t f e =
    subst (λ m. OriginsFit (walk_made w cpu.0 m)) (sym e.walk)
    (by_stage w cpu.0 e.made e.in_range h walks f e.walk e.made.stage refl)
origins_stay w (steps.HandOn cpu to) h sized walks t f e =
    ends w cpu.0 e.made e.in_range h walks f e.walk
