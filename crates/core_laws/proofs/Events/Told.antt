-- steps that leave events and migrators: what is told stays told, and who carries it goes on
use Rattle.std.proofs.Common.{◌≡◌, ◌⊎◌, inl, inr, ℕ, zero, suc, ◌+◌, ◌<◌, Bool, true, false, true≢false, cond, length, Option, Some, None, refl, sym, ap, ◌∙◌, subst}
use Rattle.std.specs.Prelude.{◌==◌, ◌||◌, is_some, option_map, option_and_then, if◌then◌else◌}
use Rattle.std.proofs.lemmas.Option.{none-some}
use Rattle.event_queue.specs.declared.event.Event.{Event}
use Rattle.tree_plan.specs.Shape.{Shape}
use Rattle.tm_base.specs.Children.{of_group}
use Rattle.tree_plan.specs.Paths.{group_at_of, parent_of}
use Rattle.walk_rules.specs.declared.walk.Walk.{Walk}
use Rattle.walk_rules.specs.declared.walk.WalkKind.{WalkKind}
use Rattle.walk_rules.specs.declared.walk.WalkKind.TheVariants as kinds
use Rattle.walk_rules.specs.declared.walk.Stage.{Stage}
use Rattle.walk_rules.specs.declared.walk.Stage.TheVariants as stages
use Rattle.walk_rules.specs.Edges.{StandsBelow, edge_level, edge_of, heading}
use Rattle.walk_rules.specs.Hierarchy.{at_top}
use Rattle.walk_rules.specs.Queues.{EventsTold, group_under}
use Rattle.walk_rules.specs.Scene.{Group, is_on}
use Rattle.walk_rules.specs.Stages.{after_sight, at_stage, child_next, first_lock, first_next, first_sight, first_stage, forget, free_group_next, freed_next, read_next, scan_next, see_child_next, see_group_next, swap_next}
use Rattle.walk_rules.specs.Standing.{FlagsAt, Tells}
use Rattle.core_world.specs.Steps.{child_on, here, with_walk}
use Rattle.core_world.specs.World.{CpuRecord, World, cpu_of, group_of, moved, own, scene_of}
use Rattle.core_world.proofs.Moves.{moved_laws}
use Rattle.core_world.proofs.Quiet.{moved_group_field}
use Rattle.core_laws.proofs.Edges.Facts.{group_child}
use Rattle.core_laws.proofs.Events.Below.{below_active}
use Rattle.core_laws.proofs.Events.Carries.{Carries, CarriesAt, IsAccountedFor, carries_none, stands_else, told_step, told_still}
use Rattle.core_laws.proofs.Events.Walking.{BeforeStep, child_is_on, claimed, fits, flags, no_heading, not_top, or_true, said, sees_on}

-- a step that leaves migrators
pub was_off : (w : World) (g : ℕ) (x : Group) (c : ℕ) (y : CpuRecord) (r : Bool) → x.migrator ≡ (group_of w g).migrator → (z : ℕ) → is_on (scene_of (moved w g x c y r)) (of_group z) ≡ false → is_on (scene_of w) (of_group z) ≡ false
was_off w g x c y r migrator z off = sym (ap is_some (moved_group_field w g x c y r (λ (i : Group). i.migrator) migrator z)) ∙ off

module _ (w : World) (g : ℕ) (x : Group) (c : ℕ) (y : CpuRecord) (r : Bool) (f : EventsTold w.tree (scene_of w)) (events : x.events ≡ (group_of w g).events) (migrator : x.migrator ≡ (group_of w g).migrator) where
  pub calm_told : ((z p : ℕ) → parent_of w.tree (of_group z) ≡ Some p → is_on (scene_of w) (of_group z) ≡ false → heading w.tree (scene_of w) c ≡ Some z → IsAccountedFor w.tree (scene_of (moved w g x c y r)) z p)
      → ((z p : ℕ) → parent_of w.tree (of_group z) ≡ Some p → is_on (scene_of w) (of_group z) ≡ false → Carries w.tree c ((scene_of w).walk c) z → IsAccountedFor w.tree (scene_of (moved w g x c y r)) z p)
      → EventsTold w.tree (scene_of (moved w g x c y r))
  calm_told up own = told_step w.tree (scene_of w) (scene_of (moved w g x c y r)) c g r (moved_laws w g x c y r).changes f
      (λ z p parent off. inl (was_off w g x c y r migrator z off))
      (λ z p parent off told. inl (told_still w.tree (scene_of w) (scene_of (moved w g x c y r)) c g r (moved_laws w g x c y r).changes
      (λ h. moved_group_field w g x c y r (λ (i : Group). i.events) events h) z p told))
      (λ z p parent off head. up z p parent (was_off w g x c y r migrator z off) head)
      (λ z p parent off q. own z p parent (was_off w g x c y r migrator z off) q)

-- a free CPU has nothing to carry
pub free_told : (w : World) (c : ℕ) (y : CpuRecord) → EventsTold w.tree (scene_of w) → (cpu_of w c).walk ≡ None → EventsTold w.tree (scene_of (own w c y))
free_told w c y f free = calm_told w 0 (group_of w 0) c y false f refl refl
    (λ z p parent off head. absurd (none-some z (sym (ap (λ m. option_and_then (group_at_of w.tree c) (edge_of (option_map forget m))) free) ∙ head)))
    (λ z p parent off q. absurd (carries_none w.tree c z (subst (λ m. Carries w.tree c (option_map forget m) z) free q)))

-- STAGES
pub carries_cond : (t : Shape) (c level : ℕ) (over : Bool) (z : ℕ) (q : Bool) (a b : Stage) → CarriesAt t c level over a z → CarriesAt t c level over b z → CarriesAt t c level over (cond q a b) z
carries_cond t c level over z true a b ha hb = ha
carries_cond t c level over z false a b ha hb = hb

pub lock_carries : (t : Shape) (c level : ℕ) (over : Bool) (z : ℕ) → CarriesAt t c level over stages.LockGroup z → CarriesAt t c level over (first_lock level) z
lock_carries t c zero over z q = q
lock_carries t c (suc l) over z q = q

sight_carries : (t : Shape) (c level : ℕ) (over : Bool) (z : ℕ) → CarriesAt t c level over stages.LockGroup z → CarriesAt t c level over (first_sight level) z
sight_carries t c zero over z q = q
sight_carries t c (suc l) over z q = q

after_carries : (t : Shape) (c level : ℕ) (over : Bool) (z : ℕ) → CarriesAt t c level over stages.SeeGroup z → CarriesAt t c level over (after_sight level) z
after_carries t c zero over z q = q
after_carries t c (suc l) over z q = q

-- one level higher a walk is about to tell what it was to tell
higher_carries : (t : Shape) (c level : ℕ) (kind : WalkKind) (z : ℕ) → Tells kind → group_at_of t c level ≡ Some z → CarriesAt t c (suc level) false (first_stage kind) z
higher_carries t c level kinds.Activate z tells e = absurd (tells refl)
higher_carries t c level kinds.Deactivate z tells e = inr e
higher_carries t c level kinds.Offline z tells e = inr e
higher_carries t c level kinds.Reeval z tells e = inr e
higher_carries t c level (kinds.Remote by) z tells e = inr e

-- STEPS OF WALKS
module _ (w : World) (c : ℕ) (k : Walk) (hc : c < length w.cpus) (a : BeforeStep w) (is : (cpu_of w c).walk ≡ Some k) where
  -- the walk goes on and carries what it carried, but for groups below which an activation stands
  on_walk : (st : Stage) → k.stage ≡ st → edge_level k.level st ≡ None → (j : Walk) → (g : ℕ) (x : Group) → x.events ≡ (group_of w g).events → x.migrator ≡ (group_of w g).migrator → (r : Bool)
      → ((z p : ℕ) → parent_of w.tree (of_group z) ≡ Some p → is_on (scene_of w) (of_group z) ≡ false → CarriesAt w.tree c k.level k.over st z → Carries w.tree c (Some (forget j)) z ⊎ StandsBelow w.tree (scene_of w) z)
      → EventsTold w.tree (scene_of (moved w g x c (with_walk (cpu_of w c) (Some j)) r))
  on_walk st e none j g x events migrator r own = calm_told w g x c (with_walk (cpu_of w c) (Some j)) r a.events.told events migrator
      (λ z p parent off head. absurd (no_heading w c k a is st e none z head))
      (λ z p parent off q. elim (own z p parent off (said w c k a is st e z q)) [
        | inl now ↦ inr (inr (c, subst (λ m. Carries w.tree c m z) (sym (ap (λ (i : CpuRecord). option_map forget i.walk) ((moved_laws w g x c (with_walk (cpu_of w c) (Some j)) r).cpu hc))) now))
        | inr below ↦ inr (inl (stands_else w.tree (scene_of w) (scene_of (moved w g x c (with_walk (cpu_of w c) (Some j)) r)) c g r (moved_laws w g x c (with_walk (cpu_of w c) (Some j)) r).changes z
            (λ head. no_heading w c k a is st e none z head) below))
      ])

  -- it carries the same
  pub steady_told : (st : Stage) → k.stage ≡ st → edge_level k.level st ≡ None → (j : Walk) → (g : ℕ) (x : Group) → x.events ≡ (group_of w g).events → x.migrator ≡ (group_of w g).migrator → (r : Bool)
      → ((z : ℕ) → CarriesAt w.tree c k.level k.over st z → Carries w.tree c (Some (forget j)) z) → EventsTold w.tree (scene_of (moved w g x c (with_walk (cpu_of w c) (Some j)) r))
  steady_told st e none j g x events migrator r own = on_walk st e none j g x events migrator r (λ z p parent off q. inl (own z q))

  pub read_told : k.stage ≡ stages.Read → EventsTold w.tree (scene_of (own w c (with_walk (cpu_of w c) (Some (read_next k)))))
  read_told e = steady_told stages.Read e refl (read_next k) 0 (group_of w 0) refl refl false (λ z q. q)

  pub child_told : k.stage ≡ stages.Child → (q : Bool) → EventsTold w.tree (scene_of (own w c (with_walk (cpu_of w c) (Some (child_next q k)))))
  child_told e q = steady_told stages.Child e refl (child_next q k) 0 (group_of w 0) refl refl false (λ z q. q)

  -- a failed exchange begins the reading anew
  pub stale_told : k.stage ≡ stages.Swap → EventsTold w.tree (scene_of (own w c (with_walk (cpu_of w c) (Some (swap_next false k)))))
  stale_told e = steady_told stages.Swap e refl (swap_next false k) 0 (group_of w 0) refl refl false (λ z q. q)

  pub lock_child_told : k.stage ≡ stages.LockChild → (g : ℕ) (x : Group) → x.events ≡ (group_of w g).events → x.migrator ≡ (group_of w g).migrator
      → EventsTold w.tree (scene_of (moved w g x c (with_walk (cpu_of w c) (Some (at_stage k stages.LockGroup))) false))
  lock_child_told e g x events migrator = steady_told stages.LockChild e refl (at_stage k stages.LockGroup) g x events migrator false (λ z q. q)

  pub lock_group_told : k.stage ≡ stages.LockGroup → (g : ℕ) (x : Group) → x.events ≡ (group_of w g).events → x.migrator ≡ (group_of w g).migrator
      → EventsTold w.tree (scene_of (moved w g x c (with_walk (cpu_of w c) (Some (at_stage k (first_sight k.level)))) false))
  lock_group_told e g x events migrator = steady_told stages.LockGroup e refl (at_stage k (first_sight k.level)) g x events migrator false (λ z q. sight_carries w.tree c k.level k.over z q)

  -- SEECHILD: the child is active, so the group is, or an activation stands below it
  pub see_child_told : k.stage ≡ stages.SeeChild → (q : Bool) → child_on w c k.level ≡ q → EventsTold w.tree (scene_of (own w c (with_walk (cpu_of w c) (Some (see_child_next q k)))))
  see_child_told e false saw = steady_told stages.SeeChild e refl (see_child_next false k) 0 (group_of w 0) refl refl false (λ z q. q)
  see_child_told e true saw = on_walk stages.SeeChild e refl (see_child_next true k) 0 (group_of w 0) refl refl false (λ z p parent off q. elim q [
    | inl will ↦
        let at = (claimed k.over (group_at_of w.tree c k.level) z will).1 in
        let m = a.hierarchy.towards c k.level z at in
        inr (below_active w.tree (scene_of w) a.hierarchy a.walks a.edges m.0 z (sym (a.hierarchy.onwards c k.level m.0 m.1) ∙ at) (child_is_on w c k a is k.level m.0 saw m.1) off)
    | inr tells ↦ absurd (true≢false (sym (under_on k.level z saw tells) ∙ off))
  ])
    where
      under_on : (l z : ℕ) → child_on w c l ≡ true → group_under w.tree c l ≡ Some z → is_on (scene_of w) (of_group z) ≡ true
      under_on zero z saw e = absurd (none-some z e)
      under_on (suc l) z saw e = child_is_on w c k a is (suc l) (of_group z) saw (group_child w.tree c l ∙ ap (option_map of_group) e)

  -- SEEGROUP: the walk ends there where the group is active, or is the top
  pub see_group_told : k.stage ≡ stages.SeeGroup → EventsTold w.tree (scene_of (own w c (with_walk (cpu_of w c) (Some (see_group_next (is_some (group_of w (here w c k)).migrator) (at_top w.tree c k.level) k)))))
  see_group_told e = on_walk stages.SeeGroup e refl (see_group_next (is_some (group_of w (here w c k)).migrator) (at_top w.tree c k.level) k) 0 (group_of w 0) refl refl false (λ z p parent off q. elim q [
    | inl will ↦
        let at = (claimed k.over (group_at_of w.tree c k.level) z will).1 in
        inl (after_carries w.tree c k.level ((is_some (group_of w (here w c k)).migrator) || (at_top w.tree c k.level)) z
        (inl (ap (λ o. if o then None else group_at_of w.tree c k.level) (not_over z p parent off at ((is_some (group_of w (here w c k)).migrator) || (at_top w.tree c k.level)) refl) ∙ at)))
    | inr tells ↦ inl (after_carries w.tree c k.level ((is_some (group_of w (here w c k)).migrator) || (at_top w.tree c k.level)) z (inr tells))
  ])
    where
      not_over : (z p : ℕ) → parent_of w.tree (of_group z) ≡ Some p → is_on (scene_of w) (of_group z) ≡ false → group_at_of w.tree c k.level ≡ Some z
          → (q : Bool) → ((is_some (group_of w (here w c k)).migrator) || (at_top w.tree c k.level)) ≡ q → q ≡ false
      not_over z p parent off at false e = refl
      not_over z p parent off at true e = elim (or_true _ _ e) [
        | inl on ↦ absurd (true≢false (sym (sees_on w c k a is z at on) ∙ off))
        | inr top ↦ absurd (not_top w c k a is k.level z p at parent top)
      ]

  pub scan_told : (i : ℕ) → k.stage ≡ stages.Scan i → (v : Option Event) → EventsTold w.tree (scene_of (own w c (with_walk (cpu_of w c) (Some (scan_next v i k)))))
  scan_told i e v = steady_told (stages.Scan i) e refl (scan_next v i k) 0 (group_of w 0) refl refl false (λ z q. carries_cond w.tree c k.level k.over z (i == 7) stages.Store (stages.Scan (i + 1)) q q)

  pub first_told : (i : ℕ) → k.stage ≡ stages.First i → (v : Option Event) → EventsTold w.tree (scene_of (own w c (with_walk (cpu_of w c) (Some (first_next v i k)))))
  first_told i e v = steady_told (stages.First i) e refl (first_next v i k) 0 (group_of w 0) refl refl false (λ z q. carries_cond w.tree c k.level k.over z (i == 7) stages.FreeGroup (stages.First (i + 1)) q q)

  -- after the last lock
  freed_told : (st : Stage) → k.stage ≡ st → edge_level k.level st ≡ None → Tells k.kind → ((z : ℕ) → CarriesAt w.tree c k.level k.over st z → (if k.over then None else group_at_of w.tree c k.level) ≡ Some z)
      → (over : Bool) → k.over ≡ over → (g : ℕ) (x : Group) → x.events ≡ (group_of w g).events → x.migrator ≡ (group_of w g).migrator
      → EventsTold w.tree (scene_of (moved w g x c (with_walk (cpu_of w c) (Some (freed_next over k))) false))
  freed_told st e none tells will true over g x events migrator = steady_told st e none (freed_next true k) g x events migrator false (λ z q. inl (will z q))
  freed_told st e none tells will false over g x events migrator = steady_told st e none (freed_next false k) g x events migrator false (λ z q.
      higher_carries w.tree c k.level k.kind z tells (claimed k.over (group_at_of w.tree c k.level) z (will z q)).1)

  pub free_group_told : k.stage ≡ stages.FreeGroup → (l : ℕ) → (g : ℕ) (x : Group) → x.events ≡ (group_of w g).events → x.migrator ≡ (group_of w g).migrator
      → EventsTold w.tree (scene_of (moved w g x c (with_walk (cpu_of w c) (Some (free_group_next l k))) false))
  free_group_told e zero g x events migrator = freed_told stages.FreeGroup e refl (fits w c k a is stages.FreeGroup e (λ z. cc)) (λ z q. elim q [ inl will ↦ will | inr none ↦ absurd (none-some z none) ]) k.over refl g x events migrator
  free_group_told e (suc l) g x events migrator = steady_told stages.FreeGroup e refl (at_stage k stages.FreeChild) g x events migrator false (λ z q. q)

  pub free_child_told : k.stage ≡ stages.FreeChild → (g : ℕ) (x : Group) → x.events ≡ (group_of w g).events → x.migrator ≡ (group_of w g).migrator
      → EventsTold w.tree (scene_of (moved w g x c (with_walk (cpu_of w c) (Some (freed_next k.over k))) false))
  free_child_told e g x events migrator = freed_told stages.FreeChild e refl (fits w c k a is stages.FreeChild e (λ z. cc)).0 (λ z q. elim q [ inl will ↦ will | inr none ↦ absurd (none-some z none) ]) k.over refl g x events migrator

  -- at Finish and Handing a walk of a CPU that has a group is over
  end_told : (st : Stage) → k.stage ≡ st → edge_level k.level st ≡ None → ((top on over : Bool) → FlagsAt top on over st → over ≡ true)
      → ((z : ℕ) → CarriesAt w.tree c k.level k.over st z → (if k.over then None else group_at_of w.tree c k.level) ≡ Some z) → (y : CpuRecord) → EventsTold w.tree (scene_of (own w c y))
  end_told st e none over will y = calm_told w 0 (group_of w 0) c y false a.events.told refl refl
      (λ z p parent off head. absurd (no_heading w c k a is st e none z head))
      (λ z p parent off q.
      (let q = claimed k.over (group_at_of w.tree c k.level) z (will z (said w c k a is st e z q)) in
      absurd (true≢false (sym (over _ _ _ (flags w c k a is st e k.level z q.1)) ∙ q.0))))

  pub finish_told : k.stage ≡ stages.Finish → (y : CpuRecord) → EventsTold w.tree (scene_of (own w c y))
  finish_told e y = end_told stages.Finish e refl (λ top on over z. z) (λ z q. elim q [ inl will ↦ will | inr none ↦ absurd (none-some z none) ]) y

  pub handed_told : k.stage ≡ stages.Handing → (y : CpuRecord) → EventsTold w.tree (scene_of (own w c y))
  handed_told e y = end_told stages.Handing e refl (λ top on over z. z) (λ z q. elim q [ inl will ↦ will | inr none ↦ absurd (none-some z none) ]) y
