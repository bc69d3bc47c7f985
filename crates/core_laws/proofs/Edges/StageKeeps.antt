-- each stage of a walk keeps the layer
use Rattle.std.proofs.Common.{◌≡◌, inl, inr, ℕ, zero, suc, ◌+◌, ◌<◌, ◌≤◌, Bool, true, false, true≢false, cond, length, Option, Some, None, refl, sym, ap, ◌∙◌, subst, arith}
use Rattle.std.specs.Prelude.{◌==◌, ◌&&◌, not, is_none, is_some, option_map, unwrap_or}
use Rattle.std.specs.Option.{option_map_or}
use Rattle.std.proofs.lemmas.Option.{none-some, same_Some}
use Rattle.tm_base.specs.declared.names.TheConstants.{NEVER}
use Rattle.tm_base.specs.declared.names.Child.{Child}
use Rattle.tm_base.specs.Children.{of_cpu, of_group}
use Rattle.tree_plan.specs.Paths.{bit_of, child_towards, group_at_of}
use Rattle.walk_rules.specs.declared.walk.Walk.{Walk}
use Rattle.walk_rules.specs.declared.walk.WalkKind.{WalkKind}
use Rattle.walk_rules.specs.declared.walk.WalkKind.TheVariants as kinds
use Rattle.walk_rules.specs.declared.walk.Stage.{Stage}
use Rattle.walk_rules.specs.declared.walk.Stage.TheVariants as stages
use Rattle.walk_rules.specs.Edges.{edge_level, edge_of, passed_levels, passed_of}
use Rattle.walk_rules.specs.Hierarchy.{IsHierarchy, at_top, group_on, side}
use Rattle.walk_rules.specs.Scene.{Group, is_on}
use Rattle.walk_rules.specs.Stages.{at_stage, first_lock, forget, joined_by, is_remote, left_by, mark_next, see_child_next, swap_next, up_next}
use Rattle.walk_rules.specs.Standing.{FitsStage, IsWalker, Leaves}
use Rattle.core_world.specs.Frames.{IsSized}
use Rattle.core_world.specs.Steps.{child_on, finished, here, swapped, walked, with_walk}
use Rattle.core_world.specs.World.{CpuRecord, World, cpu_of, group_of, is_active, moved, own, scene_of}
use Rattle.core_world.proofs.Moves.{moved_laws}
use Rattle.core_world.proofs.Quiet.{moved_group_field, own_group}
use Rattle.core_laws.specs.Walks.Fit.{WalksFit}
use Rattle.core_laws.specs.Edges.Layer.{EdgesFit}
use Rattle.core_laws.proofs.Edges.Facts.{group_child, own_child}
use Rattle.core_laws.proofs.Walks.Stands.{free_kind, freed_kind, leaf_or, stage_fits, stands_in}
use Rattle.core_laws.proofs.Edges.Resting.{Departs}
use Rattle.core_laws.proofs.Edges.Rising.{Rises, rise_fit}
use Rattle.core_laws.proofs.Edges.Swapping.{swap_fit}
use Rattle.core_laws.proofs.Edges.Stages.{is_rising, tells_at, is_finish, is_swap, cond_swap, lock_swap, sight_swap, after_swap, freed_swap, free_swap}
use Rattle.core_laws.proofs.Edges.CalmSteps.{no_edge, none_passed, calm_kept, told_kept, quiet_kept}
use Rattle.core_laws.proofs.Edges.Beginning.{and_false}

module _ (w : World) (c : ℕ) (k : Walk) (hc : c < length w.cpus) (h : IsHierarchy w.tree) (sized : IsSized w) (walks : WalksFit w.tree (scene_of w)) (f : EdgesFit w.tree (scene_of w))
    (is : (cpu_of w c).walk ≡ Some k) where
  pub was : (scene_of w).walk c ≡ Some (forget k)
  was = ap (option_map forget) is

  -- at a stage that is none of an activation's the walk is none
  pub old_tells : (st : Stage) → k.stage ≡ st → is_rising st ≡ false → (j : Walk) → (scene_of w).walk c ≡ Some j → j.kind ≡ kinds.Activate → ⊥
  old_tells st e low j at kind =
      let own_kind : k.kind ≡ kinds.Activate = ap (λ (z : Walk). z.kind) (same_Some _ _ (sym was ∙ at)) ∙ kind in
      elim (leaf_or (group_at_of w.tree c 0)) [
        | inl g ↦ tells_at w.tree c k.kind k.level st low (subst (FitsStage w.tree c k.kind k.level) e (walks.placed.in_tree c (forget k) was g).fits) own_kind
        | inr none ↦ (walks.placed.alone c (forget k) was (λ g. none-some g.0 (sym none ∙ g.1))).tells own_kind
      ]

  -- it goes on, of the same kind
  pub new_tells : (st : Stage) → k.stage ≡ st → is_rising st ≡ false → (j : Walk) → j.kind ≡ k.kind → (i : Walk) → ◌≡◌ {A = Option Walk} (Some j) (Some i) → i.kind ≡ kinds.Activate → ⊥
  new_tells st e low j same i at kind = old_tells st e low (forget k) was (sym same ∙ (ap (λ (z : Walk). z.kind) (same_Some _ _ at) ∙ kind))

  not_swap : (j : Walk) → is_swap j.stage ≡ false → (i : Walk) → ◌≡◌ {A = Option Walk} (Some j) (Some i) → is_swap i.stage ≡ false
  not_swap j other i at = sym (ap (λ (z : Walk). is_swap z.stage) (same_Some _ _ at)) ∙ other

  -- a step that changes the walk alone
  on_walk : (st : Stage) → k.stage ≡ st → is_rising st ≡ false → (j : Walk) → j.kind ≡ k.kind → is_swap j.stage ≡ false → WalksFit w.tree (scene_of (own w c (with_walk (cpu_of w c) (Some j))))
      → EdgesFit w.tree (scene_of (own w c (with_walk (cpu_of w c) (Some j))))
  on_walk st e low j same other new = quiet_kept w 0 (group_of w 0) c (with_walk (cpu_of w c) (Some j)) false hc f
      (λ x. ap (λ (z : Group). z.active) (own_group w c (with_walk (cpu_of w c) (Some j)) x)) (λ x. ap (λ (z : Group). z.migrator) (own_group w c (with_walk (cpu_of w c) (Some j)) x)) refl
      walks new (old_tells st e low) (new_tells st e low j same) (not_swap j other)

  -- one that changes a group's lock or events too
  on_group : (st : Stage) → k.stage ≡ st → is_rising st ≡ false → (j : Walk) → j.kind ≡ k.kind → is_swap j.stage ≡ false → (g : ℕ) (x : Group) → x.active ≡ (group_of w g).active → x.migrator ≡ (group_of w g).migrator
      → (r : Bool) → WalksFit w.tree (scene_of (moved w g x c (with_walk (cpu_of w c) (Some j)) r)) → EdgesFit w.tree (scene_of (moved w g x c (with_walk (cpu_of w c) (Some j)) r))
  on_group st e low j same other g x active migrator r new = quiet_kept w g x c (with_walk (cpu_of w c) (Some j)) r hc f
      (λ y. moved_group_field w g x c (with_walk (cpu_of w c) (Some j)) r (λ (z : Group). z.active) active y)
      (λ y. moved_group_field w g x c (with_walk (cpu_of w c) (Some j)) r (λ (z : Group). z.migrator) migrator y) refl
      walks new (old_tells st e low) (new_tells st e low j same) (not_swap j other)

  -- one by which the walk may end
  pub on_end : (st : Stage) → k.stage ≡ st → is_rising st ≡ false → (y : CpuRecord) → is_active y ≡ is_active (cpu_of w c) → ((j : Walk) → y.walk ≡ Some j → (j.kind ≡ k.kind) × (is_swap j.stage ≡ false))
      → WalksFit w.tree (scene_of (own w c y)) → EdgesFit w.tree (scene_of (own w c y))
  on_end st e low y on next new = quiet_kept w 0 (group_of w 0) c y false hc f
      (λ x. ap (λ (z : Group). z.active) (own_group w c y x)) (λ x. ap (λ (z : Group). z.migrator) (own_group w c y x)) on
      walks new (old_tells st e low) (λ j at kind. old_tells st e low (forget k) was (sym (next j at).0 ∙ kind)) (λ j at. (next j at).1)

  -- the group at which it stands
  pub at_group : (st : Stage) → k.stage ≡ st → (st ≡ stages.Finish → ⊥) → (g : ℕ) × (group_at_of w.tree c k.level ≡ Some g)
  at_group st e other = stands_in w.tree (scene_of w) walks c (forget k) was (λ z. other (sym e ∙ z))

  pub named : (l g : ℕ) → group_at_of w.tree c l ≡ Some g → group_on w.tree c l ≡ g
  named l g e = ap (λ m. unwrap_or m 0) e

  pub sided : (l : ℕ) (m : Child) → child_towards w.tree c l ≡ Some m → side w.tree c l ≡ bit_of w.tree m
  sided l m e = ap (λ z. option_map_or (bit_of w.tree) z 0) e

  pub in_range : (l g : ℕ) → group_at_of w.tree c l ≡ Some g → group_on w.tree c l < length w.groups
  in_range l g e = let n = named l g e in let low = h.within c l g e in omega (arith, sized.groups)

  -- CHILD: what it saw inactive is
  pub off_by : (kind : WalkKind) → Leaves kind → (online idle : Bool) → IsWalker kind online idle → (online && not idle) ≡ false
  off_by kinds.Activate l online idle q = absurd (true≢false (sym l))
  off_by kinds.Deactivate l online idle q = ap (λ b. online && not b) q.1 ∙ and_false online
  off_by kinds.Offline l online idle q = ap (λ b. b && not idle) q
  off_by kinds.Reeval l online idle q = absurd (true≢false (sym l))
  off_by (kinds.Remote by) l online idle q = absurd (true≢false (sym l))

  saw_off : (m : Option ℕ) (z : Child) → is_some (group_of w (unwrap_or m 0)).migrator ≡ false → option_map of_group m ≡ Some z → is_on (scene_of w) z ≡ false
  saw_off None z off e = absurd (none-some z e)
  saw_off (Some x) z off e = subst (λ y. is_on (scene_of w) y ≡ false) (same_Some _ _ e) off

  child_off : (l : ℕ) (z : Child) → l ≡ k.level → k.stage ≡ stages.Child → child_on w c l ≡ false → child_towards w.tree c l ≡ Some z → is_on (scene_of w) z ≡ false
  child_off zero z level e off at =
      let own : z ≡ of_cpu c = same_Some _ _ (sym at ∙ own_child w.tree c) in
      let leaving = elim (stage_fits w.tree (scene_of w) walks c (forget k) was) as (λ _. Leaves k.kind) [
        | inl fits ↦ subst (FitsStage w.tree c k.kind k.level) e fits
        | inr finishing ↦ absurd (true≢false (ap is_finish (sym finishing ∙ e)))
      ] in
      subst (λ y. is_on (scene_of w) y ≡ false) (sym own) (off_by k.kind leaving (cpu_of w c).online (cpu_of w c).idle (walks.walkers c (forget k) was))
  child_off (suc l) z level e off at = saw_off (group_at_of w.tree c l) z off (sym (group_child w.tree c l) ∙ at)

  child_kept : k.stage ≡ stages.Child → WalksFit w.tree (scene_of (walked w c k stages.Child)) → EdgesFit w.tree (scene_of (walked w c k stages.Child))
  child_kept e new =
      let y = with_walk (cpu_of w c) (Some (record k { child_on = child_on w c k.level; stage = stages.Swap })) in
      told_kept w 0 (group_of w 0) c y false hc f
      (λ x. ap (λ (z : Group). z.active) (own_group w c y x)) (λ x. ap (λ (z : Group). z.migrator) (own_group w c y x)) refl
      walks new (old_tells stages.Child e refl) (λ i at kind. old_tells stages.Child e refl (forget k) was (ap (λ (z : Walk). z.kind) (same_Some _ _ at) ∙ kind))
      (λ i m at s.
      let same = same_Some _ _ at in
      inl (child_off k.level m refl e (ap (λ (z : Walk). z.child_on) same ∙ s.saw_off) (ap (λ (z : Walk). child_towards w.tree c z.level) same ∙ s.child)))

  -- SWAP
  swap_swap : is_swap (first_lock k.level) ≡ false
  swap_swap = lock_swap k.level

  pub swap_departs : (v : World) → (scene_of v).walk c ≡ Some (forget (swap_next true k)) → k.stage ≡ stages.Swap → WalksFit w.tree (scene_of v) → Departs (scene_of v) c
  swap_departs v next e fits =
      let tells : (j : Walk) → (scene_of v).walk c ≡ Some j → j.kind ≡ kinds.Activate → ⊥ =
      λ j at kind. old_tells stages.Swap e refl (forget k) was (ap (λ (z : Walk). z.kind) (same_Some _ _ (sym next ∙ at)) ∙ kind) in
      record {
        nothing_passed = none_passed w.tree (scene_of v) fits c tells;
        no_edge = no_edge w.tree (scene_of v) fits c tells;
        not_swapping = λ j at swap. true≢false (sym (ap is_swap (ap (λ (z : Walk). z.stage) (same_Some _ _ (sym next ∙ at)) ∙ swap)) ∙ swap_swap);
        no_activation = tells;
      }

  swap_kept : k.stage ≡ stages.Swap → k.fresh ≡ true → (on : Bool) → k.child_on ≡ on
      → WalksFit w.tree (scene_of (moved w (here w c k) (left_by on (group_of w (here w c k)) (side w.tree c k.level)) c (with_walk (cpu_of w c) (Some (swap_next true k))) true))
      → EdgesFit w.tree (scene_of (moved w (here w c k) (left_by on (group_of w (here w c k)) (side w.tree c k.level)) c (with_walk (cpu_of w c) (Some (swap_next true k))) true))
  swap_kept e fresh true saw new = on_group stages.Swap e refl (swap_next true k) refl swap_swap (here w c k) (group_of w (here w c k)) refl refl true new
  swap_kept e fresh false saw new =
      let g = at_group stages.Swap e (λ z. cc) in
      let m = h.towards c k.level g.0 g.1 in
      let x = left_by false (group_of w (here w c k)) (side w.tree c k.level) in
      let y = with_walk (cpu_of w c) (Some (swap_next true k)) in
      let laws = moved_laws w (here w c k) x c y true in
      let at_here : group_at_of w.tree c k.level ≡ Some (here w c k) = g.1 ∙ ap Some (sym (named k.level g.0 g.1)) in
      let next_walk : (scene_of (moved w (here w c k) x c y true)).walk c ≡ Some (forget (swap_next true k)) = ap (λ (z : CpuRecord). option_map forget z.walk) (laws.cpu hc) in
      swap_fit w.tree h (scene_of w) (scene_of (moved w (here w c k) x c y true)) walks c (here w c k) m.0 true laws.changes f
      (sym (h.onwards c k.level m.0 m.1) ∙ at_here)
      (f.reads c (forget k) m.0 (record { walk = was; swapping = e; fresh = ap (λ z. option_map_or (λ (i : Walk). i.fresh) z false) is ∙ fresh; saw_off = saw; child = m.1 }))
      (no_edge w.tree (scene_of w) walks c (old_tells stages.Swap e refl))
      (laws.group (in_range k.level g.0 g.1) ∙ ap (left_by false (group_of w (here w c k))) (sided k.level m.0 m.1))
      (ap is_active (laws.cpu hc))
      (swap_departs (moved w (here w c k) x c y true) next_walk e new)

  swapped_kept : k.stage ≡ stages.Swap → (fresh : Bool) → k.fresh ≡ fresh → WalksFit w.tree (scene_of (swapped w c k fresh)) → EdgesFit w.tree (scene_of (swapped w c k fresh))
  swapped_kept e true fresh new = swap_kept e fresh k.child_on refl new
  swapped_kept e false fresh new = on_walk stages.Swap e refl (swap_next false k) refl refl new

  -- UP
  none_of : (m : Option ℕ) → is_none m ≡ true → m ≡ None
  none_of None e = refl
  none_of (Some g) e = absurd (true≢false (sym e))

  not_none : (m : Option ℕ) → is_none m ≡ false → m ≡ None → ⊥
  not_none None e z = true≢false e
  not_none (Some g) e z = none-some g (sym z)

  pub rises : (v : World) (g : ℕ) (top more : Bool) → at_top w.tree c k.level ≡ top → is_none (group_of w g).migrator ≡ more → (scene_of v).walk c ≡ option_map forget (up_next top more k)
      → Rises w.tree (scene_of w) (scene_of v) c k.level g
  rises v g true more top first at = record {
    passed = let e = ap passed_of at in omega (arith, e);
    edge = inr (ap edge_of at, λ _. none_of (group_at_of w.tree c (suc k.level)) top);
    not_swapping = λ j next swap. none-some j (sym at ∙ next);
    still_active = λ j next kind. absurd (none-some j (sym at ∙ next));
  }
  rises v g false true top first at = record {
    passed = let e = ap passed_of at in omega (arith, e);
    edge = inl (ap edge_of at, none_of (group_of w g).migrator first);
    not_swapping = λ j next swap. true≢false (sym (ap is_swap (ap (λ (z : Walk). z.stage) (same_Some _ _ (sym at ∙ next)) ∙ swap)));
    still_active = λ j next kind. (forget k, was, ap (λ (z : Walk). z.kind) (same_Some _ _ (sym at ∙ next)) ∙ kind);
  }
  rises v g false false top first at = record {
    passed = let e = ap passed_of at in omega (arith, e);
    edge = inr (ap edge_of at, λ z. absurd (not_none (group_of w g).migrator first z));
    not_swapping = λ j next swap. true≢false (sym (ap is_swap (ap (λ (z : Walk). z.stage) (same_Some _ _ (sym at ∙ next)) ∙ swap)));
    still_active = λ j next kind. (forget k, was, ap (λ (z : Walk). z.kind) (same_Some _ _ (sym at ∙ next)) ∙ kind);
  }

  up_kept : k.stage ≡ stages.Up → EdgesFit w.tree (scene_of (walked w c k stages.Up))
  up_kept e =
      let g = at_group stages.Up e (λ z. cc) in
      let m = h.towards c k.level g.0 g.1 in
      let x = joined_by (group_of w (here w c k)) (side w.tree c k.level) in
      let y = with_walk (cpu_of w c) (up_next (at_top w.tree c k.level) (is_none (group_of w (here w c k)).migrator) k) in
      let laws = moved_laws w (here w c k) x c y true in
      let at_here : group_at_of w.tree c k.level ≡ Some (here w c k) = g.1 ∙ ap Some (sym (named k.level g.0 g.1)) in
      rise_fit w.tree h (scene_of w) (scene_of (moved w (here w c k) x c y true)) walks c k.level (here w c k) m.0 laws.changes f
      m.1 at_here (ap edge_of was ∙ ap (edge_level k.level) e) (ap passed_of was ∙ ap (passed_levels k.level) e)
      (laws.group (in_range k.level g.0 g.1) ∙ ap (joined_by (group_of w (here w c k))) (sided k.level m.0 m.1))
      (ap is_active (laws.cpu hc))
      (rises (moved w (here w c k) x c y true) (here w c k) (at_top w.tree c k.level) (is_none (group_of w (here w c k)).migrator) refl refl (ap (λ (z : CpuRecord). option_map forget z.walk) (laws.cpu hc)))

  -- OWN and MARK: the activation stands at the same edge before and after
  same_edge : (g : ℕ) (x : Group) (m : Option Walk) → x.active ≡ (group_of w g).active → x.migrator ≡ (group_of w g).migrator
      → edge_of (option_map forget m) ≡ edge_level k.level k.stage → passed_of (option_map forget m) ≤ passed_levels k.level k.stage
      → ((j : Walk) → option_map forget m ≡ Some j → (j.kind ≡ k.kind) × (is_swap j.stage ≡ false))
      → EdgesFit w.tree (scene_of (moved w g x c (with_walk (cpu_of w c) m) false))
  same_edge g x m active migrator edge passed next = calm_kept w g x c (with_walk (cpu_of w c) m) false hc f
      (λ y. moved_group_field w g x c (with_walk (cpu_of w c) m) false (λ (z : Group). z.active) active y)
      (λ y. moved_group_field w g x c (with_walk (cpu_of w c) m) false (λ (z : Group). z.migrator) migrator y) refl
      (edge ∙ sym (ap edge_of was)) (let p = ap passed_of was in omega (arith, p, passed))
      (λ j at kind. (forget k, was, sym (next j at).0 ∙ kind))
      (λ j z at s. absurd (true≢false (sym (ap is_swap s.swapping) ∙ (next j at).1)))

  own_kept : k.stage ≡ stages.Own → EdgesFit w.tree (scene_of (walked w c k stages.Own))
  own_kept e =
      let fits = elim (stage_fits w.tree (scene_of w) walks c (forget k) was) as (λ _. FitsStage w.tree c k.kind k.level stages.Own) [
        | inl fits ↦ subst (FitsStage w.tree c k.kind k.level) e fits
        | inr finishing ↦ absurd (true≢false (ap is_finish (sym finishing ∙ e)))
      ] in
      let passed : passed_levels k.level k.stage ≡ 0 = ap (passed_levels k.level) e in
      same_edge _ _ (Some (at_stage k stages.Up)) refl refl (ap Some fits.1 ∙ sym (ap (edge_level k.level) e)) (omega (arith, fits.1, passed))
      (λ j at. (sym (ap (λ (z : Walk). z.kind) (same_Some _ _ at)), sym (ap (λ (z : Walk). is_swap z.stage) (same_Some _ _ at))))

  mark_kept : (more : Bool) → k.stage ≡ stages.Mark more → EdgesFit w.tree (scene_of (walked w c k (stages.Mark more)))
  mark_kept true e =
      let passed : passed_levels k.level k.stage ≡ suc k.level = ap (passed_levels k.level) e in
      same_edge _ _ (mark_next true k) refl refl (sym (ap (edge_level k.level) e)) (omega (arith, passed))
      (λ j at. (sym (ap (λ (z : Walk). z.kind) (same_Some _ _ at)), sym (ap (λ (z : Walk). is_swap z.stage) (same_Some _ _ at))))
  mark_kept false e = same_edge _ _ (mark_next false k) refl refl (sym (ap (edge_level k.level) e)) (omega arith) (λ j at. absurd (none-some j at))

  -- FINISH
  handing : (b : Bool) (j : Walk) → cond b None (Some (at_stage k stages.Handing)) ≡ Some j → (j.kind ≡ k.kind) × (is_swap j.stage ≡ false)
  handing true j at = absurd (none-some j at)
  handing false j at = (sym (ap (λ (z : Walk). z.kind) (same_Some _ _ at)), sym (ap (λ (z : Walk). is_swap z.stage) (same_Some _ _ at)))

  finish_kept : (kind : WalkKind) → k.stage ≡ stages.Finish → WalksFit w.tree (scene_of (own w c (finished (cpu_of w c) k kind))) → EdgesFit w.tree (scene_of (own w c (finished (cpu_of w c) k kind)))
  finish_kept kinds.Activate e new = on_end stages.Finish e refl _ refl (λ j at. absurd (none-some j at)) new
  finish_kept kinds.Deactivate e new = on_end stages.Finish e refl _ refl (λ j at. absurd (none-some j at)) new
  finish_kept kinds.Offline e new = on_end stages.Finish e refl _ refl (λ j at. handing (k.first == NEVER) j at) new
  finish_kept kinds.Reeval e new = on_end stages.Finish e refl _ refl (λ j at. absurd (none-some j at)) new
  finish_kept (kinds.Remote by) e new = on_end stages.Finish e refl _ refl (λ j at. absurd (none-some j at)) new

  pub by_stage : (st : Stage) → k.stage ≡ st → WalksFit w.tree (scene_of (walked w c k st)) → EdgesFit w.tree (scene_of (walked w c k st))
  by_stage stages.Own e new = own_kept e
  by_stage stages.Up e new = up_kept e
  by_stage (stages.Mark more) e new = mark_kept more e
  by_stage stages.Read e new = on_walk stages.Read e refl _ refl refl new
  by_stage stages.Child e new = child_kept e new
  by_stage stages.Swap e new = swapped_kept e k.fresh refl new
  by_stage stages.LockChild e new = on_group stages.LockChild e refl _ refl refl _ _ refl refl false new
  by_stage stages.LockGroup e new = on_group stages.LockGroup e refl _ refl (sight_swap k.level) _ _ refl refl false new
  by_stage stages.SeeChild e new = see_child (child_on w c k.level) e new
    where
      see_child : (on : Bool) → k.stage ≡ stages.SeeChild → WalksFit w.tree (scene_of (own w c (with_walk (cpu_of w c) (Some (see_child_next on k)))))
          → EdgesFit w.tree (scene_of (own w c (with_walk (cpu_of w c) (Some (see_child_next on k)))))
      see_child true e new = on_walk stages.SeeChild e refl _ refl refl new
      see_child false e new = on_walk stages.SeeChild e refl _ refl refl new
  by_stage stages.SeeGroup e new = on_walk stages.SeeGroup e refl _ refl (after_swap k.level) new
  by_stage (stages.Scan j) e new = on_walk (stages.Scan j) e refl _ refl (cond_swap (j == 7) stages.Store (stages.Scan (j + 1)) refl refl) new
  by_stage stages.Store e new = on_group stages.Store e refl _ refl (cond_swap (at_top w.tree c k.level && (not k.on && not (is_remote k.kind))) (stages.First 0) stages.FreeGroup refl refl) _ _ refl refl false new
  by_stage (stages.First j) e new = on_walk (stages.First j) e refl _ refl (cond_swap (j == 7) stages.FreeGroup (stages.First (j + 1)) refl refl) new
  by_stage stages.FreeGroup e new = on_group stages.FreeGroup e refl _ (free_kind k.level k) (free_swap k.level k) _ _ refl refl false new
  by_stage stages.FreeChild e new = on_group stages.FreeChild e refl _ (freed_kind k.over k) (freed_swap k.over k) _ _ refl refl false new
  by_stage stages.Finish e new = finish_kept k.kind e new
  by_stage stages.Handing e new = f
