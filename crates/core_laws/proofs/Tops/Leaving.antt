-- walks that go away, up to what they see under the locks, keep an idle top answered
use Rattle.std.proofs.Common.{◌≡◌, ℕ, zero, suc, ◌<◌, Bool, true, false, true≢false, length, Some}
use Rattle.std.proofs.Common.{None, refl, sym, ap, ◌∙◌, subst, arith}
use Rattle.std.specs.Prelude.{is_some, unwrap_or}
use Rattle.event_queue.specs.EventMap.{event_at}
use Rattle.tree_plan.specs.Paths.{group_at_of}
use Rattle.walk_rules.specs.declared.walk.Walk.{Walk}
use Rattle.walk_rules.specs.declared.walk.WalkKind.{WalkKind}
use Rattle.walk_rules.specs.declared.walk.WalkKind.TheVariants as kinds
use Rattle.walk_rules.specs.declared.walk.Stage.{Stage}
use Rattle.walk_rules.specs.declared.walk.Stage.TheVariants as stages
use Rattle.walk_rules.specs.Edges.{edge_level}
use Rattle.walk_rules.specs.Hierarchy.{HasGroup, at_top, group_on, side}
use Rattle.walk_rules.specs.Scene.{Group}
use Rattle.walk_rules.specs.Stages.{after_sight, at_stage, child_next, first_sight, forget}
use Rattle.walk_rules.specs.Stages.{free_group_next, freed_next, left_by, read_next, see_child_next}
use Rattle.walk_rules.specs.Stages.{see_group_next, swap_next, with_lock}
use Rattle.walk_rules.specs.Standing.{is_leaving}
use Rattle.core_world.specs.IdleTop.{Answered, IsTopGroup, ReadsYet, TopAnswered, is_climbing}
use Rattle.core_world.specs.Steps.{child_here, child_on, here, swapped, walked, with_walk}
use Rattle.core_world.specs.World.{World, cpu_of, group_of, moved, own, scene_of}
use Rattle.core_laws.proofs.Walks.Stands.{free_kind, freed_kind}
use Rattle.core_laws.proofs.Tops.Answering.{By, answered_own, tame, tops_step}
use Rattle.core_laws.proofs.Tops.Answering.By.{activation, climbing, first, reading}
use Rattle.core_laws.proofs.Tops.Rising.{IsRising, group_rises}
use Rattle.core_laws.proofs.Tops.Tops.{Before}
use Rattle.core_laws.proofs.Tops.Walking.{fits, flags, goes_on, has, kept, one_kind, rising_answers}
use Rattle.core_laws.proofs.Tops.Walking.{walk_is}

pub leaving_climbs : (kind : WalkKind) → is_leaving kind ≡ true → is_climbing kind ≡ true
leaving_climbs kinds.Activate e = absurd (true≢false (sym e))
leaving_climbs kinds.Deactivate e = refl
leaving_climbs kinds.Offline e = refl
leaving_climbs kinds.Reeval e = refl
leaving_climbs (kinds.Remote by) e = absurd (true≢false (sym e))

-- after the group was seen, the events are still to read
sees_yet : (child level : ℕ) → ReadsYet child (after_sight level)
sees_yet child zero = tt
sees_yet child (suc l) = tt

freed_over : (over : Bool) (k : Walk) → over ≡ k.over → k.over ≡ false →
    (freed_next over k).over ≡ false
freed_over true k same off = off
freed_over false k same off = refl

free_over : (l : ℕ) (k : Walk) → k.over ≡ false → (free_group_next l k).over ≡ false
free_over zero k off = freed_over k.over k refl off
free_over (suc l) k off = off

freed_first : (over : Bool) (k : Walk) → (freed_next over k).first ≡ k.first
freed_first true k = refl
freed_first false k = refl

free_first : (l : ℕ) (k : Walk) → (free_group_next l k).first ≡ k.first
free_first zero k = freed_first k.over k
free_first (suc l) k = refl

module _ (w : World) (c : ℕ) (k : Walk) (hc : c < length w.cpus) (b : Before w)
    (is : (cpu_of w c).walk ≡ Some k) where
  -- a walk that has nothing to read yet goes on, and no migrator and event changes
  plain : (st : Stage) → k.stage ≡ st → ((child : ℕ) → ReadsYet child st → ⊥) →
      (g : ℕ) (x : Group) (j : Walk) (r : Bool) → x.migrator ≡ (group_of w g).migrator →
      x.events ≡ (group_of w g).events
      → j.kind ≡ k.kind → (k.over ≡ false → j.over ≡ false) → j.first ≡ k.first →
      TopAnswered (moved w g x c (with_walk (cpu_of w c) (Some j)) r)
  plain st at nothing g x j r migrator events kind over soonest =
      tops_step w g x c (with_walk (cpu_of w c) (Some j)) r hc b.answered
      (tame w g x c (with_walk (cpu_of w c) (Some j)) r hc migrator
      (λ i e there counts. ap (λ z. event_at z i) (sym events) ∙ there))
      (λ h child e top was off event counts leaf by.
      kept w c k hc b is g x j r child e.expiry kind over soonest
      (λ last on yet. absurd (nothing child (subst (ReadsYet child) at yet))) leaf by)

  pub read : k.stage ≡ stages.Read → TopAnswered (walked w c k stages.Read)
  read at = plain stages.Read at (λ child none. none) 0 (group_of w 0) (read_next k) false refl refl
      refl (λ off. off) refl

  pub child : k.stage ≡ stages.Child → TopAnswered (walked w c k stages.Child)
  child at =
      plain stages.Child at (λ child none. none) 0 (group_of w 0)
      (child_next (child_on w c k.level) k) false refl refl refl (λ off. off) refl

  pub lock_child : k.stage ≡ stages.LockChild → TopAnswered (walked w c k stages.LockChild)
  lock_child at =
      plain stages.LockChild at (λ child none. none) (child_here w c k)
      (with_lock (group_of w (child_here w c k)) (Some c)) (at_stage k stages.LockGroup) false refl
      refl refl (λ off. off) refl

  pub lock_group : k.stage ≡ stages.LockGroup → TopAnswered (walked w c k stages.LockGroup)
  lock_group at =
      plain stages.LockGroup at (λ child none. none) (here w c k)
      (with_lock (group_of w (here w c k)) (Some c)) (at_stage k (first_sight k.level)) false refl
      refl refl (λ off. off) refl

  pub free_group : k.stage ≡ stages.FreeGroup → TopAnswered (walked w c k stages.FreeGroup)
  free_group at =
      plain stages.FreeGroup at (λ child none. none) (here w c k)
      (with_lock (group_of w (here w c k)) None) (free_group_next k.level k) false refl refl
      (free_kind k.level k) (free_over k.level k) (free_first k.level k)

  pub free_child : k.stage ≡ stages.FreeChild → TopAnswered (walked w c k stages.FreeChild)
  free_child at =
      plain stages.FreeChild at (λ child none. none) (child_here w c k)
      (with_lock (group_of w (child_here w c k)) None) (freed_next k.over k) false refl refl
      (freed_kind k.over k) (freed_over k.over k refl) (freed_first k.over k)

  -- a walk that makes its exchange is on its way up, and answers for all
  pub swap : k.stage ≡ stages.Swap → (fresh : Bool) → TopAnswered (swapped w c k fresh)
  swap at true =
      let leaf = has w c k hc b is stages.Swap at (λ z. cc) in
      let kind = leaving_climbs k.kind (fits w c k hc b is stages.Swap at (λ z. cc)) in
      let over = (flags w c k hc b is stages.Swap at leaf).1 in
      λ h child e top off event counts.
      answered_own w (here w c k)
      (left_by k.child_on (group_of w (here w c k)) (side w.tree c k.level)) c
      (with_walk (cpu_of w c) (Some (swap_next true k))) true hc child e.expiry leaf
      (climbing (swap_next true k) refl kind over)
  swap at false =
      plain stages.Swap at (λ child none. none) 0 (group_of w 0) (swap_next false k) false refl refl
      refl (λ off. off) refl

  -- the walk ends here, since this group is active
  ends_active : (j : Walk) → j.kind ≡ k.kind → j.first ≡ k.first →
      edge_level k.level k.stage ≡ None → ((child : ℕ) → ReadsYet child k.stage → ⊥)
      → ((h : ℕ) → IsTopGroup w h → (group_of w h).migrator ≡ None → IsRising w.tree (scene_of w)) →
      TopAnswered (own w c (with_walk (cpu_of w c) (Some j)))
  ends_active j kind soonest nowhere nothing rising =
      tops_step w 0 (group_of w 0) c (with_walk (cpu_of w c) (Some j)) false hc b.answered
      (tame w 0 (group_of w 0) c (with_walk (cpu_of w c) (Some j)) false hc refl
      (λ i e there counts. there))
      (λ h child e top was off event counts leaf by.
      (let up = rising_answers w c k hc b is 0 (group_of w 0) (Some j) false child e.expiry
      (rising h top was) nowhere in
      goes_on w c k hc b is 0 (group_of w 0) (Some j) false child e.expiry (one_kind k j kind)
      (record {
        activation = λ act. up;
        climbing = λ climbs over. up;
        reading = λ climbs last on yet. up;
        first = λ climbs low. up;
      }) leaf by))

  -- the group below the walk's level is active
  child_rises : (l : ℕ) → k.level ≡ l → 0 < l → HasGroup w.tree c → child_on w c l ≡ true →
      (h : ℕ) → IsTopGroup w h → (group_of w h).migrator ≡ None → IsRising w.tree (scene_of w)
  child_rises zero level high leaf on h top off = absurd (omega (arith, high))
  child_rises (suc l) level high leaf on h top off =
      let g = (b.walks.placed.in_tree c (forget k) (walk_is w c k hc b is) leaf).there in
      let low = b.tree.lower c l g.0 (ap (group_at_of w.tree c) (sym level) ∙ g.1) in
      let named : group_on w.tree c l ≡ low.0 = ap (λ m. unwrap_or m 0) low.1 in
      group_rises w.tree (scene_of w) b.tree b.walks b.edges c l low.0 low.1
      (ap (λ n. is_some (group_of w n).migrator) (sym named) ∙ on) top.cpu top.level h top.there
      top.last (ap is_some off)

  see_child_by : (on : Bool) → child_on w c k.level ≡ on → k.stage ≡ stages.SeeChild →
      TopAnswered (own w c (with_walk (cpu_of w c) (Some (see_child_next on k))))
  see_child_by true on at =
      ends_active (see_child_next true k) refl refl (ap (edge_level k.level) at)
      (λ child yet. subst (ReadsYet child) at yet)
      (child_rises k.level refl (fits w c k hc b is stages.SeeChild at (λ z. cc)).1
      (has w c k hc b is stages.SeeChild at (λ z. cc)) on)
  see_child_by false on at =
      plain stages.SeeChild at (λ child none. none) 0 (group_of w 0) (see_child_next false k) false
      refl refl refl (λ off. off) refl

  pub see_child : k.stage ≡ stages.SeeChild → TopAnswered (walked w c k stages.SeeChild)
  see_child at = see_child_by (child_on w c k.level) refl at

  -- the group of the walk's level is active
  here_rises : HasGroup w.tree c → is_some (group_of w (here w c k)).migrator ≡ true → (h : ℕ) →
      IsTopGroup w h → (group_of w h).migrator ≡ None → IsRising w.tree (scene_of w)
  here_rises leaf on h top off =
      let g = (b.walks.placed.in_tree c (forget k) (walk_is w c k hc b is) leaf).there in
      let named : here w c k ≡ g.0 = ap (λ m. unwrap_or m 0) g.1 in
      group_rises w.tree (scene_of w) b.tree b.walks b.edges c k.level g.0 g.1
      (ap (λ n. is_some (group_of w n).migrator) (sym named) ∙ on) top.cpu top.level h top.there
      top.last (ap is_some off)

  -- it isn't, and at the top the walk has its events to read
  sees : (last : Bool) → at_top w.tree c k.level ≡ last → k.stage ≡ stages.SeeGroup →
      TopAnswered (own w c (with_walk (cpu_of w c) (Some (see_group_next false last k))))
  sees last is_last at =
      tops_step w 0 (group_of w 0) c (with_walk (cpu_of w c) (Some (see_group_next false last k)))
      false hc b.answered
      (tame w 0 (group_of w 0) c (with_walk (cpu_of w c) (Some (see_group_next false last k))) false
      hc refl (λ i e there counts. there))
      (λ h child e top was off event counts leaf by.
      (let at_end = own_answer child e.expiry leaf in
      goes_on w c k hc b is 0 (group_of w 0) (Some (see_group_next false last k)) false child
      e.expiry (one_kind k (see_group_next false last k) refl) (record {
        activation = λ act. at_end (activation (see_group_next false last k) refl act);
        climbing = λ climbs over. at_end (by_end last is_last child e.expiry climbs);
        reading = λ climbs top on yet. absurd (subst (ReadsYet child) at yet);
        first = λ climbs low. at_end (first (see_group_next false last k) refl climbs low);
      }) leaf by))
    where
      own_answer : (child time : ℕ) → HasGroup w.tree c →
          By w.tree c (with_walk (cpu_of w c) (Some (see_group_next false last k))) child time →
          Answered (own w c (with_walk (cpu_of w c) (Some (see_group_next false last k)))) child
          time
      own_answer child time leaf a =
          answered_own w 0 (group_of w 0) c
          (with_walk (cpu_of w c) (Some (see_group_next false last k))) false hc child time leaf a

      by_end : (q : Bool) → at_top w.tree c k.level ≡ q → (child time : ℕ) →
          is_climbing k.kind ≡ true →
          By w.tree c (with_walk (cpu_of w c) (Some (see_group_next false q k))) child time
      by_end true last child time climbs =
          reading (see_group_next false true k) refl climbs last refl (sees_yet child k.level)
      by_end false last child time climbs = climbing (see_group_next false false k) refl climbs refl

  see_group_by : (on : Bool) → is_some (group_of w (here w c k)).migrator ≡ on →
      k.stage ≡ stages.SeeGroup →
      TopAnswered
      (own w c (with_walk (cpu_of w c) (Some (see_group_next on (at_top w.tree c k.level) k))))
  see_group_by true on at =
      ends_active (see_group_next true (at_top w.tree c k.level) k) refl refl
      (ap (edge_level k.level) at) (λ child yet. subst (ReadsYet child) at yet)
      (here_rises (has w c k hc b is stages.SeeGroup at (λ z. cc)) on)
  see_group_by false on at = sees (at_top w.tree c k.level) refl at

  pub see_group : k.stage ≡ stages.SeeGroup → TopAnswered (walked w c k stages.SeeGroup)
  see_group at = see_group_by (is_some (group_of w (here w c k)).migrator) refl at
