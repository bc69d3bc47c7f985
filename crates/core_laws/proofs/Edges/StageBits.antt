-- each stage of a walk keeps what is said of bits
use Rattle.std.proofs.Common.{◌≡◌, ◌≢◌, ◌⊎◌, inl, inr, ℕ, zero, suc, ◌+◌, ◌<◌, Bool, true, false, true≢false, cond, length, Option, Some, None, refl, sym, ap, ◌∙◌, subst}
use Rattle.std.specs.Prelude.{◌==◌, ◌&&◌, ◌||◌, not, is_none, is_some, option_map, option_and_then, unwrap_or, if◌then◌else◌}
use Rattle.std.specs.Int.{bit_at}
use Rattle.std.specs.Option.{option_map_or}
use Rattle.std.proofs.lemmas.Option.{none-some, same_Some}
use Rattle.tm_base.specs.declared.names.TheConstants.{NEVER}
use Rattle.event_queue.specs.EventMap.{event_at}
use Rattle.tm_base.specs.declared.names.Child.{Child}
use Rattle.tm_base.specs.Children.{of_cpu, of_group}
use Rattle.tree_plan.specs.Paths.{bit_of, child_towards, group_at_of, parent_of}
use Rattle.walk_rules.specs.declared.walk.Walk.{Walk}
use Rattle.walk_rules.specs.declared.walk.WalkKind.{WalkKind}
use Rattle.walk_rules.specs.declared.walk.WalkKind.TheVariants as kinds
use Rattle.walk_rules.specs.declared.walk.Stage.{Stage}
use Rattle.walk_rules.specs.declared.walk.Stage.TheVariants as stages
use Rattle.walk_rules.specs.Clearing.{IsSeenTo, StandsUnder, clears, clears_by, side_of_exchange}
use Rattle.walk_rules.specs.Clearing.Side.{after, before}
use Rattle.walk_rules.specs.Edges.{edge_level, edge_of, heading, passed_levels, passed_of, stand}
use Rattle.walk_rules.specs.Hierarchy.{IsHierarchy, at_top, side}
use Rattle.walk_rules.specs.Scene.{Group, HasBit, is_on}
use Rattle.walk_rules.specs.Stages.{at_stage, child_next, first_next, first_sight, first_stage, forget, free_group_next, freed_next, higher, is_remote, joined_by, left_by, mark_next, read_next, scan_next, see_child_next, see_group_next, store_next, swap_next, up_next}
use Rattle.walk_rules.specs.Standing.{FitsStage, FlagsAt, is_leaving}
use Rattle.core_world.specs.Frames.{IsSized}
use Rattle.core_world.specs.Steps.{child_here, child_on, finished, here, swapped, walked, with_walk}
use Rattle.core_world.specs.World.{CpuRecord, World, cpu_of, group_of, is_active, moved, own, scene_of}
use Rattle.core_world.proofs.Moves.{moved_laws}
use Rattle.core_world.proofs.Quiet.{moved_group_field}
use Rattle.core_laws.specs.Walks.Fit.{WalksFit}
use Rattle.core_laws.specs.Edges.Layer.{BitsFit, EdgesFit}
use Rattle.core_laws.proofs.Edges.Bits.{claim_after, claim_before, claim_swapping}
use Rattle.core_laws.proofs.Edges.Facts.{standing, through_group, group_child}
use Rattle.core_laws.proofs.Walks.Stands.{stage_fits}
use Rattle.core_laws.proofs.Edges.Stages.{is_finish, is_rising}
use Rattle.core_laws.proofs.Edges.CalmSteps.{no_edge}
use Rattle.core_laws.proofs.Edges.StageKeeps.{at_group, in_range, named, old_tells, rises, sided, swap_departs}
use Rattle.core_laws.proofs.Edges.Rising.{rise_bits}
use Rattle.core_laws.proofs.Edges.Swapping.{swap_bits}
use Rattle.core_laws.proofs.Edges.SteadyBits.{steady_bits}
use Rattle.core_laws.proofs.Edges.Claims.{cond_side, lock_side, sight_side, after_side, first_side, if_some, else_some, if_true, else_false, mapped, bit_or, law_on, has_leaf, is_none_of, or_true, and_true}

module _ (w : World) (c : ℕ) (k : Walk) (hc : c < length w.cpus) (h : IsHierarchy w.tree) (sized : IsSized w) (walks : WalksFit w.tree (scene_of w)) (f : EdgesFit w.tree (scene_of w))
    (b : BitsFit w.tree (scene_of w)) (is : (cpu_of w c).walk ≡ Some k) where
  walk_is : (scene_of w).walk c ≡ Some (forget k)
  walk_is = ap (option_map forget) is

  fresh_is : (scene_of w).fresh c ≡ k.fresh
  fresh_is = ap (λ z. option_map_or (λ (i : Walk). i.fresh) z false) is

  old_claim : clears w.tree (scene_of w) c ≡ clears_by w.tree c k.fresh (Some (forget k))
  old_claim = λ i. clears_by w.tree c (fresh_is i) (walk_is i)

  new_claim : (g : ℕ) (x : Group) (y : CpuRecord) (r : Bool) → clears w.tree (scene_of (moved w g x c y r)) c ≡ clears_by w.tree c (option_map_or (λ (i : Walk). i.fresh) y.walk false) (option_map forget y.walk)
  new_claim g x y r = ap (λ (z : CpuRecord). clears_by w.tree c (option_map_or (λ (i : Walk). i.fresh) z.walk false) (option_map forget z.walk)) ((moved_laws w g x c y r).cpu hc)

  -- an activation's stage claims nothing
  not_leaving : (st : Stage) → k.stage ≡ st → is_rising st ≡ true → is_leaving k.kind ≡ false
  not_leaving st e up = elim (stage_fits w.tree (scene_of w) walks c (forget k) walk_is) [
    | inl fits ↦ by_stage st up (subst (FitsStage w.tree c k.kind k.level) e fits)
    | inr finishing ↦ absurd (true≢false (sym up ∙ ap is_rising (sym e ∙ finishing)))
  ]
    where
      act : k.kind ≡ kinds.Activate → is_leaving k.kind ≡ false
      act e = ap is_leaving e

      by_stage : (st : Stage) → is_rising st ≡ true → FitsStage w.tree c k.kind k.level st → is_leaving k.kind ≡ false
      by_stage stages.Own up fits = act fits.0
      by_stage stages.Up up fits = act fits
      by_stage (stages.Mark more) up fits = act fits.0
      by_stage stages.Read up fits = absurd (true≢false (sym up))
      by_stage stages.Child up fits = absurd (true≢false (sym up))
      by_stage stages.Swap up fits = absurd (true≢false (sym up))
      by_stage stages.LockChild up fits = absurd (true≢false (sym up))
      by_stage stages.LockGroup up fits = absurd (true≢false (sym up))
      by_stage stages.SeeChild up fits = absurd (true≢false (sym up))
      by_stage stages.SeeGroup up fits = absurd (true≢false (sym up))
      by_stage (stages.Scan j) up fits = absurd (true≢false (sym up))
      by_stage stages.Store up fits = absurd (true≢false (sym up))
      by_stage (stages.First j) up fits = absurd (true≢false (sym up))
      by_stage stages.FreeGroup up fits = absurd (true≢false (sym up))
      by_stage stages.FreeChild up fits = absurd (true≢false (sym up))
      by_stage stages.Finish up fits = absurd (true≢false (sym up))
      by_stage stages.Handing up fits = absurd (true≢false (sym up))

  no_claim : (st : Stage) → k.stage ≡ st → is_rising st ≡ true → (m : Child) → clears w.tree (scene_of w) c ≡ Some m → ⊥
  no_claim st e up m claim = true≢false (sym (claims_leave (is_leaving k.kind) _ m (sym old_claim ∙ claim)) ∙ not_leaving st e up)
    where
      claims_leave : (q : Bool) (x : Option Child) (m : Child) → (if q then x else None) ≡ Some m → q ≡ true
      claims_leave true x m e = refl
      claims_leave false x m e = absurd (none-some m e)

  -- past the exchange, the claim is on the group, and the walk doesn't end there
  pub said_after : (st : Stage) → k.stage ≡ st → side_of_exchange st ≡ Some after → (m : Child) → clears w.tree (scene_of w) c ≡ Some m
      → (is_leaving k.kind ≡ true) × (k.over ≡ false) × ((g : ℕ) × (group_at_of w.tree c k.level ≡ Some g) × (m ≡ of_group g))
  said_after st e past m claim =
      let p = if_some _ _ m (sym (claim_after w.tree c k.fresh (forget k) (ap side_of_exchange e ∙ past)) ∙ (sym old_claim ∙ claim)) in
      let q = else_some _ _ m p.1 in
      (p.0, q.0, mapped (group_at_of w.tree c k.level) m q.1)

  claims_after : (j : Walk) → side_of_exchange j.stage ≡ Some after → is_leaving j.kind ≡ true → j.over ≡ false → (m : Child) (g : ℕ) → group_at_of w.tree c j.level ≡ Some g → m ≡ of_group g
      → clears_by w.tree c j.fresh (Some (forget j)) ≡ Some m
  claims_after j past leaving over m g at own =
      claim_after w.tree c j.fresh (forget j) past ∙ (if_true _ _ leaving ∙ (else_false _ _ over ∙ (ap (option_map of_group) at ∙ ap Some (sym own))))

  claims_before : (j : Walk) → side_of_exchange j.stage ≡ Some before → is_leaving j.kind ≡ true → (m : Child) → child_towards w.tree c j.level ≡ Some m → clears_by w.tree c j.fresh (Some (forget j)) ≡ Some m
  claims_before j side leaving m at = claim_before w.tree c j.fresh (forget j) side ∙ (if_true _ _ leaving ∙ at)

  -- before the exchange, on the child
  said_before : (st : Stage) → k.stage ≡ st → side_of_exchange st ≡ Some before → (m : Child) → clears w.tree (scene_of w) c ≡ Some m → (is_leaving k.kind ≡ true) × (child_towards w.tree c k.level ≡ Some m)
  said_before st e side m claim = if_some _ _ m (sym (claim_before w.tree c k.fresh (forget k) (ap side_of_exchange e ∙ side)) ∙ (sym old_claim ∙ claim))

  said_swapping : k.stage ≡ stages.Swap → (m : Child) → clears w.tree (scene_of w) c ≡ Some m → (is_leaving k.kind ≡ true) × ((k.child_on && k.fresh) ≡ false) × (child_towards w.tree c k.level ≡ Some m)
  said_swapping e m claim =
      let p = if_some _ _ m (sym (claim_swapping w.tree c k.fresh (forget k) (ap side_of_exchange e)) ∙ (sym old_claim ∙ claim)) in
      let q = else_some _ _ m p.1 in
      (p.0, q.0, q.1)

  -- a step of a walk that is no activation, and leaves sets and migrators
  told_bits : (st : Stage) → k.stage ≡ st → is_rising st ≡ false → (g : ℕ) (x : Group) → x.active ≡ (group_of w g).active → x.migrator ≡ (group_of w g).migrator → (y : CpuRecord) → is_active y ≡ is_active (cpu_of w c)
      → (r : Bool) → WalksFit w.tree (scene_of (moved w g x c y r)) → ((j : Walk) → y.walk ≡ Some j → j.kind ≡ k.kind)
      → ((m : Child) (p : ℕ) → parent_of w.tree m ≡ Some p → is_on (scene_of w) m ≡ false → HasBit w.tree (scene_of w) m p → clears w.tree (scene_of w) c ≡ Some m → IsSeenTo w.tree (scene_of (moved w g x c y r)) m)
      → BitsFit w.tree (scene_of (moved w g x c y r))
  told_bits st e low g x active migrator y on r new kind own = steady_bits w g x c y r hc b
      (λ z. moved_group_field w g x c y r (λ (i : Group). i.active) active z) (λ z. moved_group_field w g x c y r (λ (i : Group). i.migrator) migrator z) on own
      (λ z head. absurd (none-some z (sym (ap (option_and_then (group_at_of w.tree c)) (no_edge w.tree (scene_of w) walks c (old_tells w c k hc h sized walks f is st e low))) ∙ head)))
      (λ at. absurd (none-some (of_cpu c) (sym (ap (option_and_then (child_towards w.tree c)) (no_edge w.tree (scene_of (moved w g x c y r)) new c none)) ∙ at)))
    where
      forgotten : (m : Option Walk) (j : Walk) → option_map forget m ≡ Some j → (i : Walk) × (m ≡ Some i) × (i.kind ≡ j.kind)
      forgotten None j e = absurd (none-some j e)
      forgotten (Some i) j e = (i, refl, ap (λ (z : Walk). z.kind) (same_Some _ _ e))

      none : (j : Walk) → (scene_of (moved w g x c y r)).walk c ≡ Some j → j.kind ≡ kinds.Activate → ⊥
      none j at act =
          let i = forgotten y.walk j (sym (ap (λ (z : CpuRecord). option_map forget z.walk) ((moved_laws w g x c y r).cpu hc)) ∙ at) in
          old_tells w c k hc h sized walks f is st e low (forget k) walk_is (sym (kind i.0 i.1) ∙ (i.2 ∙ act))

  -- the walk alone changes, or a group's lock or events too: its claim stays
  on_walk : (st : Stage) → k.stage ≡ st → is_rising st ≡ false → (j : Walk) → j.kind ≡ k.kind → (g : ℕ) (x : Group) → x.active ≡ (group_of w g).active → x.migrator ≡ (group_of w g).migrator → (r : Bool)
      → WalksFit w.tree (scene_of (moved w g x c (with_walk (cpu_of w c) (Some j)) r))
      → ((m : Child) (p : ℕ) → parent_of w.tree m ≡ Some p → is_on (scene_of w) m ≡ false → HasBit w.tree (scene_of w) m p → clears w.tree (scene_of w) c ≡ Some m → (clears_by w.tree c j.fresh (Some (forget j)) ≡ Some m) ⊎ StandsUnder w.tree (scene_of (moved w g x c (with_walk (cpu_of w c) (Some j)) r)) m)
      → BitsFit w.tree (scene_of (moved w g x c (with_walk (cpu_of w c) (Some j)) r))
  on_walk st e low j same g x active migrator r new own = told_bits st e low g x active migrator (with_walk (cpu_of w c) (Some j)) refl r new
      (λ i at. sym (ap (λ (z : Walk). z.kind) (same_Some _ _ at)) ∙ same)
      (λ m p parent off bit claim. elim (own m p parent off bit claim) [
        | inl claims ↦ inl (c, new_claim g x (with_walk (cpu_of w c) (Some j)) r ∙ claims)
        | inr under ↦ inr under
      ])

  -- from a stage past the exchange to another at the same level
  past_bits : (st : Stage) → k.stage ≡ st → is_rising st ≡ false → side_of_exchange st ≡ Some after → (j : Walk) → j.kind ≡ k.kind → j.level ≡ k.level → j.over ≡ k.over → side_of_exchange j.stage ≡ Some after
      → (g : ℕ) (x : Group) → x.active ≡ (group_of w g).active → x.migrator ≡ (group_of w g).migrator → (r : Bool)
      → WalksFit w.tree (scene_of (moved w g x c (with_walk (cpu_of w c) (Some j)) r)) → BitsFit w.tree (scene_of (moved w g x c (with_walk (cpu_of w c) (Some j)) r))
  past_bits st e low past j kind level over side g x active migrator r new = on_walk st e low j kind g x active migrator r new (λ m p parent off bit claim.
      (let q = said_after st e past m claim in
      inl (claims_after j side (ap is_leaving kind ∙ q.0) (over ∙ q.1) m q.2.0 (ap (group_at_of w.tree c) level ∙ q.2.1) q.2.2)))

  own_group_same : {X : Type 0} (fn : Group → X) → fn (group_of w 0) ≡ fn (group_of w 0)
  own_group_same fn = refl

  -- CHILD
  saw_on : (m : Option ℕ) (z : Child) → is_some (group_of w (unwrap_or m 0)).migrator ≡ true → option_map of_group m ≡ Some z → is_on (scene_of w) z ≡ true
  saw_on None z on e = absurd (none-some z e)
  saw_on (Some x) z on e = subst (λ y. is_on (scene_of w) y ≡ true) (same_Some _ _ e) on

  child_is_on : (l : ℕ) (z : Child) → child_on w c l ≡ true → child_towards w.tree c l ≡ Some z → is_on (scene_of w) z ≡ true
  child_is_on zero z on at = absurd (true≢false (sym on))
  child_is_on (suc l) z on at = saw_on (group_at_of w.tree c l) z on (sym (group_child w.tree c l) ∙ at)

  child_bits : k.stage ≡ stages.Child → WalksFit w.tree (scene_of (walked w c k stages.Child)) → BitsFit w.tree (scene_of (walked w c k stages.Child))
  child_bits e new = on_walk stages.Child e refl (child_next (child_on w c k.level) k) refl 0 (group_of w 0) refl refl false new (λ m p parent off bit claim.
      (let q = said_before stages.Child e refl m claim in
      inl (claim_swapping w.tree c k.fresh (forget (child_next (child_on w c k.level) k)) refl ∙ (if_true _ _ q.0 ∙ (else_false _ _ (not_both m off q.1 (child_on w c k.level && k.fresh) refl) ∙ q.1)))))
    where
      not_both : (m : Child) → is_on (scene_of w) m ≡ false → child_towards w.tree c k.level ≡ Some m → (q : Bool) → (child_on w c k.level && k.fresh) ≡ q → q ≡ false
      not_both m off at true e = absurd (true≢false (sym (child_is_on k.level m (and_true _ _ e) at) ∙ off))
      not_both m off at false e = refl

  -- SWAP
  swap_off_bits : k.stage ≡ stages.Swap → k.fresh ≡ true → (on : Bool) → k.child_on ≡ on
      → WalksFit w.tree (scene_of (moved w (here w c k) (left_by on (group_of w (here w c k)) (side w.tree c k.level)) c (with_walk (cpu_of w c) (Some (swap_next true k))) true))
      → BitsFit w.tree (scene_of (moved w (here w c k) (left_by on (group_of w (here w c k)) (side w.tree c k.level)) c (with_walk (cpu_of w c) (Some (swap_next true k))) true))
  swap_off_bits e fresh true saw new = on_walk stages.Swap e refl (swap_next true k) refl (here w c k) (group_of w (here w c k)) refl refl true new (λ m p parent off bit claim.
      (let q = said_swapping e m claim in
      let seen : (k.child_on && k.fresh) ≡ true = (λ i. saw i && fresh i) in
      absurd (true≢false (sym seen ∙ q.1))))
  swap_off_bits e fresh false saw new =
      let g = at_group w c k hc h sized walks f is stages.Swap e (λ z. cc) in
      let m = h.towards c k.level g.0 g.1 in
      let x = left_by false (group_of w (here w c k)) (side w.tree c k.level) in
      let y = with_walk (cpu_of w c) (Some (swap_next true k)) in
      let laws = moved_laws w (here w c k) x c y true in
      let at_here : group_at_of w.tree c k.level ≡ Some (here w c k) = g.1 ∙ ap Some (sym (named w c k hc h sized walks f is k.level g.0 g.1)) in
      let fits = elim (stage_fits w.tree (scene_of w) walks c (forget k) walk_is) as (λ _. is_leaving k.kind ≡ true) [
        | inl fits ↦ subst (FitsStage w.tree c k.kind k.level) e fits
        | inr finishing ↦ absurd (true≢false (ap is_finish (sym finishing ∙ e)))
      ] in
      let flags = subst (FlagsAt (at_top w.tree c k.level) k.on k.over) e (walks.flags c (forget k) walk_is (has_leaf w.tree h c k.level g.0 g.1)) in
      swap_bits w.tree h (scene_of w) (scene_of (moved w (here w c k) x c y true)) walks c (here w c k) m.0 true laws.changes f
      (sym (h.onwards c k.level m.0 m.1) ∙ at_here)
      (f.reads c (forget k) m.0 (record { walk = walk_is; swapping = e; fresh = fresh_is ∙ fresh; saw_off = saw; child = m.1 }))
      (no_edge w.tree (scene_of w) walks c (old_tells w c k hc h sized walks f is stages.Swap e refl))
      (laws.group (in_range w c k hc h sized walks f is k.level g.0 g.1) ∙ ap (left_by false (group_of w (here w c k))) (sided w c k hc h sized walks f is k.level m.0 m.1))
      (ap is_active (laws.cpu hc))
      (swap_departs w c k hc h sized walks f is (moved w (here w c k) x c y true) (ap (λ (z : CpuRecord). option_map forget z.walk) (laws.cpu hc)) e new)
      (λ z claim. (let q = said_swapping e z claim in same_Some _ _ (sym q.2 ∙ m.1)))
      (new_claim (here w c k) x y true ∙ claims_after (swap_next true k) (lock_side k.level) fits flags.1 (of_group (here w c k)) (here w c k) at_here refl)
      b

  swapped_bits : k.stage ≡ stages.Swap → (fresh : Bool) → k.fresh ≡ fresh → WalksFit w.tree (scene_of (swapped w c k fresh)) → BitsFit w.tree (scene_of (swapped w c k fresh))
  swapped_bits e true fresh new = swap_off_bits e fresh k.child_on refl new
  swapped_bits e false fresh new = on_walk stages.Swap e refl (swap_next false k) refl 0 (group_of w 0) refl refl false new (λ m p parent off bit claim.
      (let q = said_swapping e m claim in inl (claims_before (swap_next false k) refl q.0 m q.2)))

  -- SEECHILD: the child is active, so the group is, or an activation stands below it
  see_child_bits : k.stage ≡ stages.SeeChild → (on : Bool) → child_on w c k.level ≡ on → WalksFit w.tree (scene_of (own w c (with_walk (cpu_of w c) (Some (see_child_next on k)))))
      → BitsFit w.tree (scene_of (own w c (with_walk (cpu_of w c) (Some (see_child_next on k)))))
  see_child_bits e false saw new = past_bits stages.SeeChild e refl refl (see_child_next false k) refl refl refl refl 0 (group_of w 0) refl refl false new
  see_child_bits e true saw new = on_walk stages.SeeChild e refl (see_child_next true k) refl 0 (group_of w 0) refl refl false new (λ m p parent off bit claim.
      (let q = said_after stages.SeeChild e refl m claim in
      let low = h.towards c k.level q.2.0 q.2.1 in
      let up : parent_of w.tree low.0 ≡ Some q.2.0 = sym (h.onwards c k.level low.0 low.1) ∙ q.2.1 in
      let on = child_is_on k.level low.0 saw low.1 in
      inr (subst (λ z. StandsUnder w.tree (scene_of (own w c (with_walk (cpu_of w c) (Some (see_child_next true k))))) z) (sym q.2.2)
      (elim (bit_or (bit_at (group_of w q.2.0).active (bit_of w.tree low.0))) as (λ _. StandsUnder w.tree (scene_of (own w c (with_walk (cpu_of w c) (Some (see_child_next true k))))) (of_group q.2.0)) [
        | inl set ↦ absurd (true≢false (sym (law_on _ _ _ (f.groups.law q.2.0) set) ∙ subst (λ z. is_on (scene_of w) z ≡ false) q.2.2 off))
        | inr unset ↦ below low.0 q.2.0 up (f.edges.needs low.0 q.2.0 up on unset)
      ]))))
    where
      below : (m : Child) (g : ℕ) → parent_of w.tree m ≡ Some g → (d : ℕ) × (stand w.tree (scene_of w) d ≡ Some m) → (d : ℕ) × (heading w.tree (scene_of (own w c (with_walk (cpu_of w c) (Some (see_child_next true k))))) d ≡ Some g)
      below m g up d =
          let p = standing w.tree (scene_of w) walks d.0 m d.1 in
          let was : heading w.tree (scene_of w) d.0 ≡ Some g = ap (option_and_then (group_at_of w.tree d.0)) p.1 ∙ (h.onwards d.0 p.0 m p.2 ∙ up) in
          let ne : d.0 ≢ c = (λ same. none-some g (sym (ap (option_and_then (group_at_of w.tree c)) (no_edge w.tree (scene_of w) walks c (old_tells w c k hc h sized walks f is stages.SeeChild e refl))) ∙ subst (λ n. heading w.tree (scene_of w) n ≡ Some g) same was)) in
          (d.0, ap (λ z. option_and_then (group_at_of w.tree d.0) (edge_of z)) ((moved_laws w 0 (group_of w 0) c (with_walk (cpu_of w c) (Some (see_child_next true k))) false).changes.walk d.0 ne) ∙ was)

  -- SEEGROUP: the walk ends there where the group is active, or is the top
  see_group_bits : k.stage ≡ stages.SeeGroup → WalksFit w.tree (scene_of (walked w c k stages.SeeGroup)) → BitsFit w.tree (scene_of (walked w c k stages.SeeGroup))
  see_group_bits e new =
      let j = see_group_next (is_some (group_of w (here w c k)).migrator) (at_top w.tree c k.level) k in
      on_walk stages.SeeGroup e refl j refl 0 (group_of w 0) refl refl false new (λ m p parent off bit claim.
      (let q = said_after stages.SeeGroup e refl m claim in
      inl (claims_after j (after_side k.level) q.0 (not_over m p q.2.0 parent off q.2.1 q.2.2 ((is_some (group_of w (here w c k)).migrator) || (at_top w.tree c k.level)) refl) m q.2.0 q.2.1 q.2.2)))
    where
      not_over : (m : Child) (p g : ℕ) → parent_of w.tree m ≡ Some p → is_on (scene_of w) m ≡ false → group_at_of w.tree c k.level ≡ Some g → m ≡ of_group g
          → (q : Bool) → ((is_some (group_of w (here w c k)).migrator) || (at_top w.tree c k.level)) ≡ q → q ≡ false
      not_over m p g parent off at own false e = refl
      not_over m p g parent off at own true e = elim (or_true _ _ e) [
        | inl on ↦ absurd (true≢false (sym (subst (λ n. is_some (group_of w n).migrator ≡ true) (named w c k hc h sized walks f is k.level g at) on) ∙ subst (λ z. is_on (scene_of w) z ≡ false) own off))
        | inr top ↦ absurd (none-some p (sym (is_none_of _ top) ∙ (h.onwards c (suc k.level) (of_group g) (through_group w.tree c k.level g at) ∙ (ap (parent_of w.tree) (sym own) ∙ parent))))
      ]

  -- after the last lock: one level higher the walk claims the same child before its exchange
  freed_bits : (st : Stage) → k.stage ≡ st → is_rising st ≡ false → side_of_exchange st ≡ Some after → (over : Bool) → k.over ≡ over → (g : ℕ) (x : Group) → x.active ≡ (group_of w g).active → x.migrator ≡ (group_of w g).migrator
      → WalksFit w.tree (scene_of (moved w g x c (with_walk (cpu_of w c) (Some (freed_next over k))) false)) → BitsFit w.tree (scene_of (moved w g x c (with_walk (cpu_of w c) (Some (freed_next over k))) false))
  freed_bits st e low past true over g x active migrator new = on_walk st e low (freed_next true k) refl g x active migrator false new (λ m p parent off bit claim.
      (let q = said_after st e past m claim in absurd (true≢false (sym over ∙ q.1))))
  freed_bits st e low past false over g x active migrator new = on_walk st e low (freed_next false k) refl g x active migrator false new (λ m p parent off bit claim.
      (let q = said_after st e past m claim in
      inl (claims_before (higher k (first_stage k.kind)) (first_side k.kind q.0) q.0 m (through_group w.tree c k.level q.2.0 q.2.1 ∙ ap Some (sym q.2.2)))))

  free_group_bits : k.stage ≡ stages.FreeGroup → (l : ℕ) → (g : ℕ) (x : Group) → x.active ≡ (group_of w g).active → x.migrator ≡ (group_of w g).migrator
      → WalksFit w.tree (scene_of (moved w g x c (with_walk (cpu_of w c) (Some (free_group_next l k))) false)) → BitsFit w.tree (scene_of (moved w g x c (with_walk (cpu_of w c) (Some (free_group_next l k))) false))
  free_group_bits e zero g x active migrator new = freed_bits stages.FreeGroup e refl refl k.over refl g x active migrator new
  free_group_bits e (suc l) g x active migrator new = past_bits stages.FreeGroup e refl refl (at_stage k stages.FreeChild) refl refl refl refl g x active migrator false new

  -- at Finish and Handing a walk of a CPU that has a group is over, and others claim nothing
  done : (st : Stage) → k.stage ≡ st → side_of_exchange st ≡ Some after → ((top on over : Bool) → FlagsAt top on over st → over ≡ true) → (m : Child) → clears w.tree (scene_of w) c ≡ Some m → ⊥
  done st e past flags m claim =
      let q = said_after st e past m claim in
      true≢false (sym (flags _ _ _ (subst (FlagsAt (at_top w.tree c k.level) k.on k.over) e (walks.flags c (forget k) walk_is (has_leaf w.tree h c k.level q.2.0 q.2.1)))) ∙ q.1)

  end_bits : (st : Stage) → k.stage ≡ st → is_rising st ≡ false → side_of_exchange st ≡ Some after → ((top on over : Bool) → FlagsAt top on over st → over ≡ true) → (y : CpuRecord) → is_active y ≡ is_active (cpu_of w c)
      → ((j : Walk) → y.walk ≡ Some j → j.kind ≡ k.kind) → WalksFit w.tree (scene_of (own w c y)) → BitsFit w.tree (scene_of (own w c y))
  end_bits st e low past flags y on kind new = told_bits st e low 0 (group_of w 0) refl refl y on false new kind (λ m p parent off bit claim. absurd (done st e past flags m claim))

  handing : (q : Bool) (j : Walk) → cond q None (Some (at_stage k stages.Handing)) ≡ Some j → j.kind ≡ k.kind
  handing true j at = absurd (none-some j at)
  handing false j at = sym (ap (λ (z : Walk). z.kind) (same_Some _ _ at))

  finish_bits : (kind : WalkKind) → k.stage ≡ stages.Finish → WalksFit w.tree (scene_of (own w c (finished (cpu_of w c) k kind))) → BitsFit w.tree (scene_of (own w c (finished (cpu_of w c) k kind)))
  finish_bits kinds.Activate e new = end_bits stages.Finish e refl refl (λ top on over z. z) _ refl (λ j at. absurd (none-some j at)) new
  finish_bits kinds.Deactivate e new = end_bits stages.Finish e refl refl (λ top on over z. z) _ refl (λ j at. absurd (none-some j at)) new
  finish_bits kinds.Offline e new = end_bits stages.Finish e refl refl (λ top on over z. z) _ refl (λ j at. handing (k.first == NEVER) j at) new
  finish_bits kinds.Reeval e new = end_bits stages.Finish e refl refl (λ top on over z. z) _ refl (λ j at. absurd (none-some j at)) new
  finish_bits (kinds.Remote by) e new = end_bits stages.Finish e refl refl (λ top on over z. z) _ refl (λ j at. absurd (none-some j at)) new

  -- ACTIVATIONS
  up_bits : k.stage ≡ stages.Up → BitsFit w.tree (scene_of (walked w c k stages.Up))
  up_bits e =
      let g = at_group w c k hc h sized walks f is stages.Up e (λ z. cc) in
      let m = h.towards c k.level g.0 g.1 in
      let x = joined_by (group_of w (here w c k)) (side w.tree c k.level) in
      let y = with_walk (cpu_of w c) (up_next (at_top w.tree c k.level) (is_none (group_of w (here w c k)).migrator) k) in
      let laws = moved_laws w (here w c k) x c y true in
      let at_here : group_at_of w.tree c k.level ≡ Some (here w c k) = g.1 ∙ ap Some (sym (named w c k hc h sized walks f is k.level g.0 g.1)) in
      rise_bits w.tree h (scene_of w) (scene_of (moved w (here w c k) x c y true)) walks c k.level (here w c k) m.0 laws.changes f
      m.1 at_here (ap edge_of walk_is ∙ ap (edge_level k.level) e) (ap passed_of walk_is ∙ ap (passed_levels k.level) e)
      (laws.group (in_range w c k hc h sized walks f is k.level g.0 g.1) ∙ ap (joined_by (group_of w (here w c k))) (sided w c k hc h sized walks f is k.level m.0 m.1))
      (ap is_active (laws.cpu hc))
      (rises w c k hc h sized walks f is (moved w (here w c k) x c y true) (here w c k) (at_top w.tree c k.level) (is_none (group_of w (here w c k)).migrator) refl refl (ap (λ (z : CpuRecord). option_map forget z.walk) (laws.cpu hc)))
      (no_claim stages.Up e refl) b

  -- at Own and Mark it stands at the same edge before and after
  same_edge : (st : Stage) → k.stage ≡ st → is_rising st ≡ true → (g : ℕ) (x : Group) (m : Option Walk) → x.active ≡ (group_of w g).active → x.migrator ≡ (group_of w g).migrator
      → edge_of (option_map forget m) ≡ edge_level k.level k.stage → BitsFit w.tree (scene_of (moved w g x c (with_walk (cpu_of w c) m) false))
  same_edge st e up g x m active migrator edge =
      let y = with_walk (cpu_of w c) m in
      let now : edge_of ((scene_of (moved w g x c y false)).walk c) ≡ edge_of ((scene_of w).walk c) =
      ap (λ (z : CpuRecord). edge_of (option_map forget z.walk)) ((moved_laws w g x c y false).cpu hc) ∙ (edge ∙ sym (ap edge_of walk_is)) in
      steady_bits w g x c y false hc b
      (λ z. moved_group_field w g x c y false (λ (i : Group). i.active) active z) (λ z. moved_group_field w g x c y false (λ (i : Group). i.migrator) migrator z) refl
      (λ z p parent off bit claim. absurd (no_claim st e up z claim))
      (λ z head. ap (option_and_then (group_at_of w.tree c)) now ∙ head)
      (λ at. sym (ap (option_and_then (child_towards w.tree c)) now) ∙ at)

  own_bits : k.stage ≡ stages.Own → BitsFit w.tree (scene_of (walked w c k stages.Own))
  own_bits e =
      let fits = elim (stage_fits w.tree (scene_of w) walks c (forget k) walk_is) as (λ _. FitsStage w.tree c k.kind k.level stages.Own) [
        | inl fits ↦ subst (FitsStage w.tree c k.kind k.level) e fits
        | inr finishing ↦ absurd (true≢false (ap is_finish (sym finishing ∙ e)))
      ] in
      same_edge stages.Own e refl _ _ (Some (at_stage k stages.Up)) refl refl (ap Some fits.1 ∙ sym (ap (edge_level k.level) e))

  mark_bits : (more : Bool) → k.stage ≡ stages.Mark more → BitsFit w.tree (scene_of (walked w c k (stages.Mark more)))
  mark_bits true e = same_edge (stages.Mark true) e refl _ _ (mark_next true k) refl refl (sym (ap (edge_level k.level) e))
  mark_bits false e = same_edge (stages.Mark false) e refl _ _ (mark_next false k) refl refl (sym (ap (edge_level k.level) e))

  pub stage_bits : (st : Stage) → k.stage ≡ st → WalksFit w.tree (scene_of (walked w c k st)) → BitsFit w.tree (scene_of (walked w c k st))
  stage_bits stages.Own e new = own_bits e
  stage_bits stages.Up e new = up_bits e
  stage_bits (stages.Mark more) e new = mark_bits more e
  stage_bits stages.Read e new = on_walk stages.Read e refl (read_next k) refl 0 (group_of w 0) refl refl false new (λ m p parent off bit claim.
      (let q = said_before stages.Read e refl m claim in inl (claims_before (read_next k) refl q.0 m q.1)))
  stage_bits stages.Child e new = child_bits e new
  stage_bits stages.Swap e new = swapped_bits e k.fresh refl new
  stage_bits stages.LockChild e new = past_bits stages.LockChild e refl refl (at_stage k stages.LockGroup) refl refl refl refl _ _ refl refl false new
  stage_bits stages.LockGroup e new = past_bits stages.LockGroup e refl refl (at_stage k (first_sight k.level)) refl refl refl (sight_side k.level) _ _ refl refl false new
  stage_bits stages.SeeChild e new = see_child_bits e (child_on w c k.level) refl new
  stage_bits stages.SeeGroup e new = see_group_bits e new
  stage_bits (stages.Scan j) e new = past_bits (stages.Scan j) e refl refl (scan_next (event_at (group_of w (child_here w c k)).events j) j k) refl refl refl (cond_side (j == 7) stages.Store (stages.Scan (j + 1)) refl refl) 0 (group_of w 0) refl refl false new
  stage_bits stages.Store e new = past_bits stages.Store e refl refl (store_next (at_top w.tree c k.level) k) refl refl refl
      (cond_side (at_top w.tree c k.level && (not k.on && not (is_remote k.kind))) (stages.First 0) stages.FreeGroup refl refl) _ _ refl refl false new
  stage_bits (stages.First j) e new = past_bits (stages.First j) e refl refl (first_next (event_at (group_of w (here w c k)).events j) j k) refl refl refl (cond_side (j == 7) stages.FreeGroup (stages.First (j + 1)) refl refl) 0 (group_of w 0) refl refl false new
  stage_bits stages.FreeGroup e new = free_group_bits e k.level _ _ refl refl new
  stage_bits stages.FreeChild e new = freed_bits stages.FreeChild e refl refl k.over refl _ _ refl refl new
  stage_bits stages.Finish e new = finish_bits k.kind e new
  stage_bits stages.Handing e new = b

  pub handed_bits : k.stage ≡ stages.Handing → WalksFit w.tree (scene_of (own w c (with_walk (cpu_of w c) None))) → BitsFit w.tree (scene_of (own w c (with_walk (cpu_of w c) None)))
  handed_bits e new = end_bits stages.Handing e refl refl (λ top on over z. z) (with_walk (cpu_of w c) None) refl (λ j at. absurd (none-some j at)) new
