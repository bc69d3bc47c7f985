-- Store keeps an idle top answered
use Rattle.std.proofs.Common.{◌≡◌, inl, inr, ℕ, ◌<◌, Bool, true, false, true≢false, cond, length}
use Rattle.std.proofs.Common.{Some, None, refl, sym, ap, ◌∙◌, subst, arith}
use Rattle.std.specs.Prelude.{◌&&◌, not, is_some, unwrap_or}
use Rattle.std.proofs.lemmas.Bool.{cases_Bool}
use Rattle.event_queue.specs.EventMap.{event_at}
use Rattle.tree_plan.specs.Paths.{group_at_of}
use Rattle.walk_rules.specs.declared.walk.Walk.{Walk}
use Rattle.walk_rules.specs.declared.walk.WalkKind.{WalkKind}
use Rattle.walk_rules.specs.declared.walk.WalkKind.TheVariants as kinds
use Rattle.walk_rules.specs.declared.walk.Stage.{Stage}
use Rattle.walk_rules.specs.declared.walk.Stage.TheVariants as stages
use Rattle.walk_rules.specs.Edges.{edge_level}
use Rattle.walk_rules.specs.Hierarchy.{HasGroup, at_top, side}
use Rattle.walk_rules.specs.Queues.{is_locking, is_past_sight}
use Rattle.walk_rules.specs.Scene.{Group}
use Rattle.walk_rules.specs.Stages.{forget, is_remote, store_next, stored_event, with_event}
use Rattle.walk_rules.specs.Standing.{FlagsAt}
use Rattle.core_world.specs.IdleTop.{Answered, IsTopGroup, ReadsYet, TopAnswered, is_climbing}
use Rattle.core_world.specs.Marks.{IsMarker}
use Rattle.core_world.specs.Steps.{here, walked, with_walk}
use Rattle.core_world.specs.World.{CpuRecord, World, cpu_of, group_of, moved, scene_of}
use Rattle.core_laws.proofs.Tops.Slots.{group_cases, seen_in}
use Rattle.core_laws.proofs.Tops.Answering.{answered_by, answered_else, answered_own, tops_step}
use Rattle.core_laws.proofs.Tops.Answering.By.{climbing, interrupt, reading}
use Rattle.core_laws.proofs.Tops.Leaving.{leaving_climbs}
use Rattle.core_laws.proofs.Tops.Rising.{cpu_rises, has_leaf}
use Rattle.core_laws.proofs.Tops.Tops.{Before, not_above, one_top, placed_has}
use Rattle.core_laws.proofs.Tops.Walking.{all_answered, climbs, fits, goes_on, has, kept, one_kind}
use Rattle.core_laws.proofs.Tops.Walking.{rising_answers, walk_is}

-- a walk that is about to take a lock isn't at its end
locking_over : (top on over : Bool) (st : Stage) → is_locking st ≡ true → FlagsAt top on over st →
    over ≡ false
locking_over top on over stages.Own e f = absurd (true≢false (sym e))
locking_over top on over stages.Up e f = absurd (true≢false (sym e))
locking_over top on over (stages.Mark more) e f = absurd (true≢false (sym e))
locking_over top on over stages.Read e f = absurd (true≢false (sym e))
locking_over top on over stages.Child e f = absurd (true≢false (sym e))
locking_over top on over stages.Swap e f = absurd (true≢false (sym e))
locking_over top on over stages.LockChild e f = f.1
locking_over top on over stages.LockGroup e f = f.1
locking_over top on over stages.SeeChild e f = absurd (true≢false (sym e))
locking_over top on over stages.SeeGroup e f = absurd (true≢false (sym e))
locking_over top on over (stages.Scan j) e f = absurd (true≢false (sym e))
locking_over top on over stages.Store e f = absurd (true≢false (sym e))
locking_over top on over (stages.First j) e f = absurd (true≢false (sym e))
locking_over top on over stages.FreeGroup e f = absurd (true≢false (sym e))
locking_over top on over stages.FreeChild e f = absurd (true≢false (sym e))
locking_over top on over stages.Finish e f = absurd (true≢false (sym e))
locking_over top on over stages.Handing e f = absurd (true≢false (sym e))

remote_of : (kind : WalkKind) → is_remote kind ≡ true →
    (by : ℕ) × (kind ≡ kinds.Remote (record { 0 = by }))
remote_of kinds.Activate e = absurd (true≢false (sym e))
remote_of kinds.Deactivate e = absurd (true≢false (sym e))
remote_of kinds.Offline e = absurd (true≢false (sym e))
remote_of kinds.Reeval e = absurd (true≢false (sym e))
remote_of (kinds.Remote by) e = (by.0, refl)

module _ (w : World) (c : ℕ) (k : Walk) (hc : c < length w.cpus) (b : Before w)
    (is : (cpu_of w c).walk ≡ Some k) where
  -- the group, the CPU and the world after the step
  abbrev told : Group
  told = with_event (group_of w (here w c k)) (side w.tree c k.level) (stored_event k.level c k)

  abbrev goes : Bool → CpuRecord
  goes last = with_walk (cpu_of w c) (Some (store_next last k))

  abbrev Stored : Bool → World
  Stored last = moved w (here w c k) told c (goes last) false

  module _ (at : k.stage ≡ stages.Store) where
    leaf : HasGroup w.tree c
    leaf = has w c k hc b is stages.Store at (λ z. cc)

    there : (group_at_of w.tree c k.level ≡ Some (here w c k))
    there = let g = (b.walks.placed.in_tree c (forget k) (walk_is w c k hc b is) leaf).there in
        g.1 ∙ ap Some (sym (ap (λ m. unwrap_or m 0) g.1))

    -- BELOW THE TOP no event of a top changes
    below : at_top w.tree c k.level ≡ false → TopAnswered (Stored false)
    below last = tops_step w (here w c k) told c (goes false) false hc b.answered
        (λ h child e top off event counts.
        elim (group_cases w (here w c k) told c (goes false) false h) [
          | inl p ↦ absurd (not_above w b h c k.level top (there ∙ ap Some (sym p.0)) last)
          | inr same ↦
              inl (
                sym (ap (λ (z : Group). z.migrator) same) ∙ off,
                sym (ap (λ (z : Group). event_at z.events child) same) ∙ event,
              )
        ])
        (λ h child e top was off event counts has_it by.
        kept w c k hc b is (here w c k) _ (store_next false k) false child e.expiry refl
        (λ over. over) refl
        (λ top_is on yet. absurd (true≢false (sym top_is ∙ last))) has_it by)

    -- AT THE TOP a Remote walk's marker answers: inside its interrupt, or active
    by_marker : (x : ℕ) → IsMarker w x → (h child time : ℕ) → IsTopGroup w h →
        (group_of w h).migrator ≡ None → is_remote k.kind ≡ true → Answered (Stored true) child time
    by_marker x m h child time top off remote = elim (cases_Bool (cpu_of w x).idle) [
      | inl idle ↦
          answered_by w (here w c k) _ c (goes true) false hc x child time
          (placed_has w b c x leaf m.placed)
          (interrupt m.online idle m.inside
          (λ j is_j reeval. m.goes_on (record { made = j; walk = is_j; kind = reeval })))
          (λ has_it by. goes_on w c k hc b is (here w c k) _ (Some (store_next true k)) false child
          time (one_kind k (store_next true k) refl) (record {
            activation = λ act. absurd (true≢false (sym remote ∙ ap is_remote act));
            climbing = λ climbs over. absurd (remote_climbs k.kind remote climbs);
            reading = λ climbs last on yet. absurd (remote_climbs k.kind remote climbs);
            first = λ climbs low. absurd (remote_climbs k.kind remote climbs);
          }) has_it by)
      | inr busy ↦
          rising_answers w c k hc b is (here w c k) _ (Some (store_next true k)) false child time
          (cpu_rises w.tree (scene_of w) b.tree b.walks b.edges x (placed_has w b c x leaf m.placed)
          (λ i. active_is m.online busy i) top.cpu top.level h top.there top.last
          (ap is_some off))
          (ap (edge_level k.level) at)
    ]
      where
        active_is : {on idle : Bool} → on ≡ true → idle ≡ false → (on && not idle) ≡ true
        active_is on busy = λ i. on i && not (busy i)

        remote_climbs : (kind : WalkKind) → is_remote kind ≡ true → is_climbing kind ≡ true → ⊥
        remote_climbs kinds.Activate r climbs = true≢false (sym climbs)
        remote_climbs kinds.Deactivate r climbs = true≢false (sym r)
        remote_climbs kinds.Offline r climbs = true≢false (sym r)
        remote_climbs kinds.Reeval r climbs = true≢false (sym r)
        remote_climbs (kinds.Remote by) r climbs = true≢false (sym climbs)

    here_off : (h : ℕ) → IsTopGroup w h → (group_of w h).migrator ≡ None →
        at_top w.tree c k.level ≡ true → is_some (group_of w (here w c k)).migrator ≡ false
    here_off h top off last =
        ap (λ n. is_some (group_of w n).migrator)
        (sym (one_top w b h c k.level (here w c k) top there last)) ∙ ap is_some off

    -- where the walk had found the top active, another walk is on its way there
    by_other : (h child time : ℕ) → IsTopGroup w h → (group_of w h).migrator ≡ None →
        at_top w.tree c k.level ≡ true → k.on ≡ true → Answered (Stored true) child time
    by_other h child time top off last on =
        let o = b.sights c (here w c k) (forget k) (walk_is w c k hc b is) (ap is_past_sight at) on
        there (here_off h top off last) in
        let d = o.0 in
        let way = o.1.1 in
        let d_has = has_leaf w.tree b.tree d way.made.level (here w c k) way.here in
        let over =
        locking_over (at_top w.tree d way.made.level) way.made.on way.made.over way.made.stage
        way.locking (b.walks.flags d way.made way.walk d_has) in
        let j = seen_in (cpu_of w d).walk way.made way.walk in
        answered_else w (here w c k) _ c (goes true) false hc d child time o.1.0 d_has
        (climbing j.0 j.1 (ap (λ (z : Walk). is_climbing z.kind) j.2
        ∙ leaving_climbs way.made.kind way.leaves) (ap (λ (z : Walk). z.over) j.2 ∙ over))

    -- else it has all events of the top to read
    by_itself : (child time : ℕ) → at_top w.tree c k.level ≡ true → is_remote k.kind ≡ false →
        k.on ≡ false → Answered (Stored true) child time
    by_itself child time last remote on =
        answered_own w (here w c k) _ c (goes true) false hc child time leaf
        (reading (store_next true k) refl
        (climbs k.kind (fits w c k hc b is stages.Store at (λ z. cc)) remote) last on
        (subst (λ q. ReadsYet child (cond q (stages.First 0) stages.FreeGroup)) (sym no_end)
        (omega arith)))
      where
        no_end : (not k.on && not (is_remote k.kind)) ≡ true
        no_end = λ i. not (on i) && not (remote i)

    by_one : (h child time : ℕ) → at_top w.tree c k.level ≡ true → IsTopGroup w h →
        (group_of w h).migrator ≡ None → Answered (Stored true) child time
    by_one h child time last top off = elim (cases_Bool (is_remote k.kind)) [
      | inl remote ↦
          let r = remote_of k.kind remote in
          by_marker r.0 (b.markers c r.0 (b.cpus.remote c k (record { 0 = r.0 }) is r.1)) h child
          time top off remote
      | inr other ↦ elim (cases_Bool k.on) [
        | inl on ↦ by_other h child time top off last on
        | inr off_seen ↦ by_itself child time last other off_seen
      ]
    ]

    store_at : (last : Bool) → at_top w.tree c k.level ≡ last → TopAnswered (Stored last)
    store_at true last =
        all_answered w c k hc b is (here w c k) told (Some (store_next true k)) false refl
        (λ h child time top off. by_one h child time last top off)
    store_at false last = below last

    pub store : TopAnswered (walked w c k stages.Store)
    store = store_at (at_top w.tree c k.level) refl
