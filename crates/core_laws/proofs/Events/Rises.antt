-- activations and exchanges: what is told stays told
use Rattle.std.proofs.Common.{◌≡◌, ◌≢◌, inl, inr, ℕ, suc, ◌<◌, Bool, true, false, true≢false, length, Option, Some, None, refl, sym, ap, ◌∙◌, subst}
use Rattle.std.specs.Prelude.{is_none, is_some, option_map, option_and_then, slice_set, if◌then◌else◌}
use Rattle.std.proofs.lemmas.Bool.{cases_eq}
use Rattle.std.proofs.lemmas.Option.{none-some, same_Some}
use Rattle.event_queue.specs.declared.event.Event.{Event}
use Rattle.event_queue.specs.EventMap.{marked_slot}
use Rattle.tm_base.specs.declared.names.Child.{Child}
use Rattle.tm_base.specs.Children.{of_cpu, of_group}
use Rattle.tree_plan.specs.Paths.{child_towards, group_at_of}
use Rattle.walk_rules.specs.declared.walk.Walk.{Walk}
use Rattle.walk_rules.specs.declared.walk.Stage.{Stage}
use Rattle.walk_rules.specs.declared.walk.Stage.TheVariants as stages
use Rattle.walk_rules.specs.Clearing.{MarksActive}
use Rattle.walk_rules.specs.Edges.{edge_level, edge_of, heading}
use Rattle.walk_rules.specs.Hierarchy.{at_top, group_on, side}
use Rattle.walk_rules.specs.Queues.{EventsTold}
use Rattle.walk_rules.specs.Scene.{Group, is_on}
use Rattle.walk_rules.specs.Stages.{at_stage, first_lock, forget, joined_by, left_by, mark_next, swap_next, up_next, with_mark}
use Rattle.core_world.specs.Steps.{here, walked, with_walk}
use Rattle.core_world.specs.World.{CpuRecord, World, cpu_of, group_of, moved, scene_of}
use Rattle.core_world.proofs.Moves.{moved_laws}
use Rattle.core_world.proofs.Quiet.{moved_group_field}
use Rattle.core_laws.proofs.Edges.Facts.{own_child, through_group}
use Rattle.core_laws.proofs.Edges.Sets.{joined_on}
use Rattle.core_laws.proofs.Events.Carries.{Carries, CarriesAt, carries_none, told_step, told_still}
use Rattle.core_laws.proofs.Events.Told.{lock_carries, was_off}
use Rattle.core_laws.proofs.Events.Walking.{BeforeStep, at_here, fits, flags, in_range, named, no_heading, said, sided, walk_is}
use Rattle.core_laws.proofs.Events.Writes.{WritesEvent, counts_was, told_else}

module _ (w : World) (c : ℕ) (k : Walk) (hc : c < length w.cpus) (a : BeforeStep w) (is : (cpu_of w c).walk ≡ Some k) where
  -- a step that writes the event of its path's child at a level
  pub writes_at : (n g : ℕ) (m : Child) → group_at_of w.tree c n ≡ Some g → child_towards w.tree c n ≡ Some m → (x : Group) (slot : Option Event) → x.events ≡ slice_set (group_of w (group_on w.tree c n)).events (side w.tree c n) slot → (y : CpuRecord)
      → WritesEvent w.tree (scene_of w) (scene_of (moved w (group_on w.tree c n) x c y false)) m (group_on w.tree c n) slot
  writes_at n g m at through x slot events y = record {
    parent = sym (a.hierarchy.onwards c n m through) ∙ (at ∙ ap Some (sym (named w c k a is n g at)));
    others = λ z ne. ap (λ (i : Group). i.events) ((moved_laws w (group_on w.tree c n) x c y false).changes.group z ne);
    written = ap (λ (i : Group). i.events) ((moved_laws w (group_on w.tree c n) x c y false).group (in_range w c k a is n g at))
        ∙ (events ∙ ap (λ s. slice_set (group_of w (group_on w.tree c n)).events s slot) (sided w c k a is n m through));
  }

  -- what an activation marks as ignored is the event of a CPU, or of an active group
  mark_told : (st : Stage) → k.stage ≡ st → (n g : ℕ) (m : Child) → group_at_of w.tree c n ≡ Some g → child_towards w.tree c n ≡ Some m → (y : CpuRecord)
      → ((z : ℕ) → is_on (scene_of w) (of_group z) ≡ false → of_group z ≢ m)
      → ((z : ℕ) → heading w.tree (scene_of w) c ≡ Some z → option_and_then (group_at_of w.tree c) (edge_of (option_map forget y.walk)) ≡ Some z)
      → ((z : ℕ) → CarriesAt w.tree c k.level k.over st z → ⊥)
      → EventsTold w.tree (scene_of (moved w (group_on w.tree c n) (with_mark (group_of w (group_on w.tree c n)) (side w.tree c n)) c y false))
  mark_told st e n g m at through y other up none =
      let x = with_mark (group_of w (group_on w.tree c n)) (side w.tree c n) in
      let slot = marked_slot (group_of w (group_on w.tree c n)).events (side w.tree c n) in
      let new = scene_of (moved w (group_on w.tree c n) x c y false) in
      let laws = moved_laws w (group_on w.tree c n) x c y false in
      let writes = writes_at n g m at through x slot refl y in
      told_step w.tree (scene_of w) new c (group_on w.tree c n) false laws.changes a.events.told
      (λ z p parent off. inl (was_off w (group_on w.tree c n) x c y false refl z off))
      (λ z p parent off told. inl (told_else w.tree a.hierarchy (scene_of w) new m (group_on w.tree c n) slot writes z p parent
      (other z (was_off w (group_on w.tree c n) x c y false refl z off))
      (counts_was w.tree a.hierarchy (scene_of w) new m (group_on w.tree c n) slot writes (ap (marked_slot (group_of w (group_on w.tree c n)).events) (sided w c k a is n m through)) z) told))
      (λ z p parent off head. inr (inl (c, ap (λ (i : CpuRecord). option_and_then (group_at_of w.tree c) (edge_of (option_map forget i.walk))) (laws.cpu hc) ∙ up z head)))
      (λ z p parent off q. absurd (none z (said w c k a is st e z q)))

  stood : (st : Stage) → k.stage ≡ st → (z : ℕ) → heading w.tree (scene_of w) c ≡ Some z → option_and_then (group_at_of w.tree c) (edge_level k.level st) ≡ Some z
  stood st e z head = ap (option_and_then (group_at_of w.tree c)) (sym (ap edge_of (walk_is w c k a is) ∙ ap (edge_level k.level) e)) ∙ head

  pub own_told : k.stage ≡ stages.Own → EventsTold w.tree (scene_of (walked w c k stages.Own))
  own_told e =
      let level = (fits w c k a is stages.Own e (λ z. cc)).1 in
      mark_told stages.Own e 0 (here w c k) (of_cpu c) (ap (group_at_of w.tree c) (sym level) ∙ at_here w c k a is stages.Own e (λ z. cc)) (own_child w.tree c)
      (with_walk (cpu_of w c) (Some (at_stage k stages.Up))) (λ z off same. cc) (λ z head. ap (group_at_of w.tree c) level ∙ stood stages.Own e z head)
      (λ z q. carries_none w.tree c z q)

  pub marks_told : (more : Bool) → k.stage ≡ stages.Mark more → EventsTold w.tree (scene_of (walked w c k (stages.Mark more)))
  marks_told more e =
      let at = at_here w c k a is (stages.Mark more) e (λ z. cc) in
      let on = subst (MarksActive w.tree (scene_of w) c k.level) e (a.marks c (forget k) (walk_is w c k a is)) (here w c k) at in
      let above = (fits w c k a is (stages.Mark more) e (λ z. cc)).1 in
      mark_told (stages.Mark more) e (suc k.level) above.0 (of_group (here w c k)) above.1 (through_group w.tree c k.level (here w c k) at)
      (with_walk (cpu_of w c) (mark_next more k)) (λ z off same. true≢false (sym on ∙ subst (λ i. is_on (scene_of w) i ≡ false) same off)) (λ z head. goes more z (stood (stages.Mark more) e z head))
      (λ z q. carries_none w.tree c z q)
    where
      goes : (more : Bool) (z : ℕ) → option_and_then (group_at_of w.tree c) (edge_level k.level (stages.Mark more)) ≡ Some z → option_and_then (group_at_of w.tree c) (edge_of (option_map forget (mark_next more k))) ≡ Some z
      goes true z head = head
      goes false z head = absurd (none-some z head)

  -- UP: the group gets active, so its events need not be told
  up_else : k.stage ≡ stages.Up → (z : ℕ) → is_on (scene_of (walked w c k stages.Up)) (of_group z) ≡ false → z ≢ here w c k
  up_else e z off same =
      let at = at_here w c k a is stages.Up e (λ z. cc) in
      let x = joined_by (group_of w (here w c k)) (side w.tree c k.level) in
      let y = with_walk (cpu_of w c) (up_next (at_top w.tree c k.level) (is_none (group_of w (here w c k)).migrator) k) in
      let on : is_on (scene_of (moved w (here w c k) x c y true)) (of_group (here w c k)) ≡ true =
      ap (λ (i : Group). is_some i.migrator) ((moved_laws w (here w c k) x c y true).group (in_range w c k a is k.level (here w c k) at)) ∙ joined_on (group_of w (here w c k)).migrator (side w.tree c k.level) in
      true≢false (sym (subst (λ i. is_on (scene_of (moved w (here w c k) x c y true)) (of_group i) ≡ true) (sym same) on) ∙ off)

  pub up_off : k.stage ≡ stages.Up → (z : ℕ) → is_on (scene_of (walked w c k stages.Up)) (of_group z) ≡ false → is_on (scene_of w) (of_group z) ≡ false
  up_off e z off =
      let x = joined_by (group_of w (here w c k)) (side w.tree c k.level) in
      let y = with_walk (cpu_of w c) (up_next (at_top w.tree c k.level) (is_none (group_of w (here w c k)).migrator) k) in
      sym (ap (λ (i : Group). is_some i.migrator) ((moved_laws w (here w c k) x c y true).changes.group z (up_else e z off))) ∙ off

  pub up_told : k.stage ≡ stages.Up → EventsTold w.tree (scene_of (walked w c k stages.Up))
  up_told e =
      let at = at_here w c k a is stages.Up e (λ z. cc) in
      let x = joined_by (group_of w (here w c k)) (side w.tree c k.level) in
      let y = with_walk (cpu_of w c) (up_next (at_top w.tree c k.level) (is_none (group_of w (here w c k)).migrator) k) in
      let new = scene_of (moved w (here w c k) x c y true) in
      let laws = moved_laws w (here w c k) x c y true in
      told_step w.tree (scene_of w) new c (here w c k) true laws.changes a.events.told
      (λ z p parent off. inl (up_off e z off))
      (λ z p parent off told. inl (told_still w.tree (scene_of w) new c (here w c k) true laws.changes (λ i. moved_group_field w (here w c k) x c y true (λ (i : Group). i.events) refl i) z p told))
      (λ z p parent off head. absurd (up_else e z off (same_Some _ _ (sym (stood stages.Up e z head) ∙ at))))
      (λ z p parent off q. absurd (carries_none w.tree c z (said w c k a is stages.Up e z q)))

  -- an exchange leaves the other groups
  pub swap_off : (on : Bool) (z : ℕ) → z ≢ here w c k
      → is_on (scene_of (moved w (here w c k) (left_by on (group_of w (here w c k)) (side w.tree c k.level)) c (with_walk (cpu_of w c) (Some (swap_next true k))) true)) (of_group z) ≡ false → is_on (scene_of w) (of_group z) ≡ false
  swap_off on z ne off = sym (ap (λ (i : Group). is_some i.migrator) ((moved_laws w (here w c k) (left_by on (group_of w (here w c k)) (side w.tree c k.level)) c (with_walk (cpu_of w c) (Some (swap_next true k))) true).changes.group z ne)) ∙ off

  left_events : (on : Bool) (x : Group) (i : ℕ) → (left_by on x i).events ≡ x.events
  left_events true x i = refl
  left_events false x i = refl

  -- SWAP: the walk that takes a child out tells its group's events
  pub swap_told : k.stage ≡ stages.Swap → (on : Bool)
      → EventsTold w.tree (scene_of (moved w (here w c k) (left_by on (group_of w (here w c k)) (side w.tree c k.level)) c (with_walk (cpu_of w c) (Some (swap_next true k))) true))
  swap_told e on =
      let at = at_here w c k a is stages.Swap e (λ z. cc) in
      let x = left_by on (group_of w (here w c k)) (side w.tree c k.level) in
      let y = with_walk (cpu_of w c) (Some (swap_next true k)) in
      let new = scene_of (moved w (here w c k) x c y true) in
      let laws = moved_laws w (here w c k) x c y true in
      let now : new.walk c ≡ Some (forget (swap_next true k)) = ap (λ (i : CpuRecord). option_map forget i.walk) (laws.cpu hc) in
      let carries : Carries w.tree c (new.walk c) (here w c k) = subst (λ m. Carries w.tree c m (here w c k)) (sym now)
      (lock_carries w.tree c k.level k.over (here w c k) (inl (ap (λ o. if o then None else group_at_of w.tree c k.level) (flags w c k a is stages.Swap e k.level (here w c k) at).1 ∙ at))) in
      told_step w.tree (scene_of w) new c (here w c k) true laws.changes a.events.told
      (λ z p parent off. elim (cases_eq z (here w c k)) [
        | inl same ↦ inr (inr (inr (c, subst (Carries w.tree c (new.walk c)) (sym same) carries)))
        | inr ne ↦ inl (swap_off on z ne off)
      ])
      (λ z p parent off told. inl (told_still w.tree (scene_of w) new c (here w c k) true laws.changes
      (λ i. moved_group_field w (here w c k) x c y true (λ (i : Group). i.events) (left_events on (group_of w (here w c k)) (side w.tree c k.level)) i) z p told))
      (λ z p parent off head. absurd (no_heading w c k a is stages.Swap e refl z head))
      (λ z p parent off q. inr (inr (
        c,
        subst (λ m. Carries w.tree c m z) (sym now) (elim (said w c k a is stages.Swap e z q) as (λ _. CarriesAt w.tree c k.level k.over (first_lock k.level) z) [
          | inl none ↦ absurd (none-some z none)
          | inr tells ↦ lock_carries w.tree c k.level k.over z (inr tells)
        ]),
      )))
