-- every step keeps locks with the walks that hold them
use Rattle.std.proofs.Common.{◌≡◌, ◌≢◌, ◌⊎◌, inl, inr, ℕ, zero, suc, ◌+◌, ◌-◌, ◌<◌, Bool, true, false, cond, length, Option, Some, None, refl, sym, ap, ◌∙◌, subst, arith}
use Rattle.std.specs.Prelude.{◌==◌, ◌&&◌, not, option_map, unwrap_or}
use Rattle.std.proofs.lemmas.Bool.{cases_eq}
use Rattle.std.proofs.lemmas.Option.{none-some, same_Some}
use Rattle.tm_base.specs.declared.names.TheConstants.{NEVER}
use Rattle.tree_plan.specs.Shape.{Shape}
use Rattle.tree_plan.specs.Paths.{group_at_of}
use Rattle.walk_rules.specs.declared.walk.Walk.{Walk}
use Rattle.walk_rules.specs.declared.walk.WalkKind.{WalkKind}
use Rattle.walk_rules.specs.declared.walk.WalkKind.TheVariants as kinds
use Rattle.walk_rules.specs.declared.walk.Stage.{Stage}
use Rattle.walk_rules.specs.declared.walk.Stage.TheVariants as stages
use Rattle.walk_rules.specs.Hierarchy.{IsHierarchy, at_top, group_on, side}
use Rattle.walk_rules.specs.Locks.{HoldsBy, LocksHold, child_lock, group_lock}
use Rattle.walk_rules.specs.Queues.{group_under}
use Rattle.walk_rules.specs.Scene.{Group}
use Rattle.walk_rules.specs.Stages.{after_sight, at_stage, first_lock, first_sight, first_stage, forget, free_group_next, freed_next, is_remote, mark_next, see_child_next, swap_next, up_next, left_by}
use Rattle.walk_rules.specs.Standing.{FitsStage}
use Rattle.core_world.specs.declared.step.Step.{Step}
use Rattle.core_world.specs.declared.step.Step.TheVariants as steps
use Rattle.core_world.specs.Enabled.{Enabled, MayGoOn}
use Rattle.core_world.specs.Frames.{IsSized, is_quiet}
use Rattle.core_world.specs.Steps.{child_here, child_on, finished, here, stepped, swapped, walk_made, walked, with_walk}
use Rattle.walk_rules.specs.Stages.{begun_where}
use Rattle.core_world.specs.World.{CpuRecord, World, cpu_of, group_of, moved, own, scene_of}
use Rattle.core_world.proofs.Moves.{moved_laws}
use Rattle.core_world.proofs.Quiet.{moved_group_field, quiet_steps}
use Rattle.core_laws.specs.Walks.Fit.{WalksFit}
use Rattle.core_laws.proofs.Walks.Stands.{stage_fits, stands_in}
use Rattle.core_laws.specs.Locks.Layer.{LocksStay}

-- the locks that a walk holds, or none without a walk
abbrev group_of_walk : Shape → (c : ℕ) → Option Walk → Option ℕ
group_of_walk t c None = None
group_of_walk t c (Some k) = group_lock t c k.level k.stage

abbrev child_of_walk : Shape → (c : ℕ) → Option Walk → Option ℕ
child_of_walk t c None = None
child_of_walk t c (Some k) = child_lock t c k.level k.stage

held_by : (t : Shape) (c : ℕ) (m : Option Walk) (g : ℕ) → HoldsBy t c m g → (group_of_walk t c m ≡ Some g) ⊎ (child_of_walk t c m ≡ Some g)
held_by t c None g e = absurd e
held_by t c (Some k) g e = e

holds_by : (t : Shape) (c : ℕ) (m : Option Walk) (g : ℕ) → (group_of_walk t c m ≡ Some g) ⊎ (child_of_walk t c m ≡ Some g) → HoldsBy t c m g
holds_by t c None g (inl e) = none-some g e
holds_by t c None g (inr e) = none-some g e
holds_by t c (Some k) g e = e

-- A STEP OF THE GENERAL FORM: the locks of others stay, and those of its own CPU go with its walk
module _ (w : World) (g : ℕ) (x : Group) (c : ℕ) (y : CpuRecord) (r : Bool) (hc : c < length w.cpus) (l : LocksHold w.tree (scene_of w)) where
  now : (h : ℕ) → Option ℕ
  now h = (group_of (moved w g x c y r) h).lock

  walk_c : (scene_of (moved w g x c y r)).walk c ≡ option_map forget y.walk
  walk_c = ap (λ (z : CpuRecord). option_map forget z.walk) ((moved_laws w g x c y r).cpu hc)

  Old : ℕ → Type 0
  Old h = HoldsBy w.tree c ((scene_of w).walk c) h

  New : ℕ → Type 0
  New h = HoldsBy w.tree c (option_map forget y.walk) h

  locks_step : ((h d : ℕ) → d ≢ c → now h ≡ Some d → (group_of w h).lock ≡ Some d) → ((h d : ℕ) → d ≢ c → (group_of w h).lock ≡ Some d → now h ≡ Some d)
      → ((h : ℕ) → now h ≡ Some c → New h) → ((h : ℕ) → New h → now h ≡ Some c) → LocksHold w.tree (scene_of (moved w g x c y r))
  unfolding now New
  locks_step back forth own owns = record {
    held = λ h d e. elim (cases_eq d c) [
      | inl same ↦ subst (λ n. HoldsBy w.tree n ((scene_of (moved w g x c y r)).walk n) h) (sym same)
          (subst (λ m. HoldsBy w.tree c m h) (sym walk_c) (own h (e ∙ ap Some same)))
      | inr ne ↦ subst (λ m. HoldsBy w.tree d m h) (sym ((moved_laws w g x c y r).changes.walk d ne)) (l.held h d (back h d ne e))
    ];
    holds = λ h d e. elim (cases_eq d c) [
      | inl same ↦ owns h (subst (λ m. HoldsBy w.tree c m h) walk_c (subst (λ n. HoldsBy w.tree n ((scene_of (moved w g x c y r)).walk n) h) same e)) ∙ ap Some (sym same)
      | inr ne ↦ forth h d ne (l.holds h d (subst (λ m. HoldsBy w.tree d m h) ((moved_laws w g x c y r).changes.walk d ne) e))
    ];
  }

  -- no lock is taken or given back
  steady : x.lock ≡ (group_of w g).lock → ((h : ℕ) → Old h → New h) → ((h : ℕ) → New h → Old h) → LocksHold w.tree (scene_of (moved w g x c y r))
  unfolding now Old New
  steady lock keeps only =
      let same : (h : ℕ) → now h ≡ (group_of w h).lock = moved_group_field w g x c y r (λ (z : Group). z.lock) lock in
      locks_step (λ h d ne e. sym (same h) ∙ e) (λ h d ne e. same h ∙ e)
      (λ h e. keeps h (l.held h c (sym (same h) ∙ e))) (λ h e. same h ∙ l.holds h c (only h e))

  -- the lock of g is taken
  taken : g < length w.groups → (group_of w g).lock ≡ None → x.lock ≡ Some c → New g → ((h : ℕ) → Old h → New h) → ((h : ℕ) → New h → (h ≡ g) ⊎ Old h) → LocksHold w.tree (scene_of (moved w g x c y r))
  unfolding now Old New
  taken within before lock gains keeps only =
      let at_g : now g ≡ Some c = ap (λ (z : Group). z.lock) ((moved_laws w g x c y r).group within) ∙ lock in
      let else_same : (h : ℕ) → h ≢ g → now h ≡ (group_of w h).lock = λ h ne. ap (λ (z : Group). z.lock) ((moved_laws w g x c y r).changes.group h ne) in
      locks_step
      (λ h d ne e. elim (cases_eq h g) [
        | inl same ↦ absurd (ne (same_Some _ _ (sym e ∙ (ap (λ n. (group_of (moved w g x c y r) n).lock) same ∙ at_g))))
        | inr other ↦ sym (else_same h other) ∙ e
      ])
      (λ h d ne e. elim (cases_eq h g) [
        | inl same ↦ absurd (none-some d (sym before ∙ (ap (λ n. (group_of w n).lock) (sym same) ∙ e)))
        | inr other ↦ else_same h other ∙ e
      ])
      (λ h e. elim (cases_eq h g) [
        | inl same ↦ subst (λ n. HoldsBy w.tree c (option_map forget y.walk) n) (sym same) gains
        | inr other ↦ keeps h (l.held h c (sym (else_same h other) ∙ e))
      ])
      (λ h e. elim (only h e) [
        | inl same ↦ ap (λ n. (group_of (moved w g x c y r) n).lock) same ∙ at_g
        | inr was ↦ elim (cases_eq h g) [
          | inl same ↦ absurd (none-some c (sym before ∙ (ap (λ n. (group_of w n).lock) (sym same) ∙ l.holds h c was)))
          | inr other ↦ else_same h other ∙ l.holds h c was
        ]
      ])

  -- the lock of g is given back
  given : g < length w.groups → x.lock ≡ None → Old g → ((h : ℕ) → Old h → (h ≡ g) ⊎ New h) → ((h : ℕ) → New h → (h ≢ g) × Old h) → LocksHold w.tree (scene_of (moved w g x c y r))
  unfolding now Old New
  given within lock was keeps only =
      let at_g : now g ≡ None = ap (λ (z : Group). z.lock) ((moved_laws w g x c y r).group within) ∙ lock in
      let else_same : (h : ℕ) → h ≢ g → now h ≡ (group_of w h).lock = λ h ne. ap (λ (z : Group). z.lock) ((moved_laws w g x c y r).changes.group h ne) in
      locks_step
      (λ h d ne e. elim (cases_eq h g) [
        | inl same ↦ absurd (none-some d (sym at_g ∙ (ap (λ n. (group_of (moved w g x c y r) n).lock) (sym same) ∙ e)))
        | inr other ↦ sym (else_same h other) ∙ e
      ])
      (λ h d ne e. elim (cases_eq h g) [
        | inl same ↦ absurd (ne (same_Some _ _ (sym e ∙ (ap (λ n. (group_of w n).lock) same ∙ l.holds g c was))))
        | inr other ↦ else_same h other ∙ e
      ])
      (λ h e. elim (cases_eq h g) [
        | inl same ↦ absurd (none-some c (sym at_g ∙ (ap (λ n. (group_of (moved w g x c y r) n).lock) (sym same) ∙ e)))
        | inr other ↦ elim (keeps h (l.held h c (sym (else_same h other) ∙ e))) [ inl same ↦ absurd (other same) | inr q ↦ q ]
      ])
      (λ h e. let p = only h e in else_same h p.0 ∙ l.holds h c p.1)

-- STAGES: those at which no lock is held, and those at which both are
module _ (t : Shape) (c level : ℕ) where
  Free : Stage → Type 0
  Free st = (group_lock t c level st ≡ None) × (child_lock t c level st ≡ None)

  Both : Stage → Type 0
  Both st = (group_lock t c level st ≡ group_at_of t c level) × (child_lock t c level st ≡ group_under t c level)

  both_cond : (q : Bool) (a b : Stage) → Both a → Both b → Both (cond q a b)
  unfolding Both
  both_cond true a b ha hb = ha
  both_cond false a b ha hb = hb

first_free : (t : Shape) (c level : ℕ) (kind : WalkKind) → Free t c level (first_stage kind)
unfolding Free
first_free t c level kinds.Activate = (refl, refl)
first_free t c level kinds.Deactivate = (refl, refl)
first_free t c level kinds.Offline = (refl, refl)
first_free t c level kinds.Reeval = (refl, refl)
first_free t c level (kinds.Remote by) = (refl, refl)

lock_free : (t : Shape) (c level : ℕ) → Free t c level (first_lock level)
unfolding Free
lock_free t c zero = (refl, refl)
lock_free t c (suc l) = (refl, refl)

sight_both : (t : Shape) (c level : ℕ) → Both t c level (first_sight level)
unfolding Both
sight_both t c zero = (refl, refl)
sight_both t c (suc l) = (refl, refl)

after_both : (t : Shape) (c level : ℕ) → Both t c level (after_sight level)
unfolding Both
after_both t c zero = (refl, refl)
after_both t c (suc l) = (refl, refl)

neither : {A B : Type 0} → (A → ⊥) → (B → ⊥) → A ⊎ B → ⊥
neither a b (inl x) = a x
neither a b (inr x) = b x

free_at : (t : Shape) (c level : ℕ) (st : Stage) → Free t c level st → (g : ℕ) → (group_lock t c level st ≡ Some g) ⊎ (child_lock t c level st ≡ Some g) → ⊥
unfolding Free
free_at t c level st f g e = neither (λ a. none-some g (sym f.0 ∙ a)) (λ b. none-some g (sym f.1 ∙ b)) e

-- a walk that holds no lock
IsFree : Shape → ℕ → Option Walk → Type 0
IsFree t c m = (g : ℕ) → HoldsBy t c (option_map forget m) g → ⊥

free_none : (t : Shape) (c : ℕ) → IsFree t c None
unfolding IsFree
free_none t c g e = e

free_some : (t : Shape) (c : ℕ) (j : Walk) → Free t c j.level j.stage → IsFree t c (Some j)
unfolding IsFree
free_some t c j f g e = free_at t c j.level j.stage f g e

free_up : (t : Shape) (c : ℕ) (top more : Bool) (k : Walk) → IsFree t c (up_next top more k)
unfolding Free
free_up t c true more k = free_none t c
free_up t c false more k = free_some t c (at_stage k (stages.Mark more)) (refl, refl)

free_mark : (t : Shape) (c : ℕ) (more : Bool) (k : Walk) → IsFree t c (mark_next more k)
unfolding Free
free_mark t c true k = free_some t c _ (refl, refl)
free_mark t c false k = free_none t c

free_freed : (t : Shape) (c : ℕ) (over : Bool) (k : Walk) → IsFree t c (Some (freed_next over k))
unfolding Free
free_freed t c true k = free_some t c (at_stage k stages.Finish) (refl, refl)
free_freed t c false k = free_some t c (freed_next false k) (first_free t c (suc k.level) k.kind)

free_handing : (t : Shape) (c : ℕ) (q : Bool) (k : Walk) → IsFree t c (cond q None (Some (at_stage k stages.Handing)))
unfolding Free
free_handing t c true k = free_none t c
free_handing t c false k = free_some t c (at_stage k stages.Handing) (refl, refl)

free_begun : (t : Shape) (c : ℕ) (q : Bool) (kind : WalkKind) (stage : Stage) (pin next : ℕ) → Free t c 0 stage → IsFree t c (begun_where q kind stage pin next)
unfolding Free
free_begun t c true kind stage pin next f = free_some t c _ f
free_begun t c false kinds.Activate stage pin next f = free_none t c
free_begun t c false kinds.Deactivate stage pin next f = free_some t c _ (refl, refl)
free_begun t c false kinds.Offline stage pin next f = free_some t c _ (refl, refl)
free_begun t c false kinds.Reeval stage pin next f = free_some t c _ (refl, refl)
free_begun t c false (kinds.Remote by) stage pin next f = free_some t c _ (refl, refl)

above_zero : (n : ℕ) → 0 < n → (l : ℕ) × (n ≡ suc l)
above_zero zero z = absurd (omega arith)
above_zero (suc l) z = (l, refl)

-- a free CPU's walk begins
begins_free : (w : World) (c : ℕ) (y : CpuRecord) → c < length w.cpus → LocksHold w.tree (scene_of w) → (cpu_of w c).walk ≡ None → IsFree w.tree c y.walk → LocksHold w.tree (scene_of (own w c y))
unfolding Old New IsFree
begins_free w c y hc l free new = steady w 0 (group_of w 0) c y false hc l refl
    (λ h e. absurd (subst (λ m. HoldsBy w.tree c m h) (ap (option_map forget) free) e)) (λ h e. absurd (new h e))

-- STEPS OF WALKS
module _ (w : World) (c : ℕ) (k : Walk) (hc : c < length w.cpus) (h : IsHierarchy w.tree) (sized : IsSized w) (walks : WalksFit w.tree (scene_of w)) (l : LocksHold w.tree (scene_of w))
    (is : (cpu_of w c).walk ≡ Some k) where
  walk_is : (scene_of w).walk c ≡ Some (forget k)
  walk_is = ap (option_map forget) is

  -- what the walk holds by its stage
  said : (st : Stage) → k.stage ≡ st → (g : ℕ) → HoldsBy w.tree c ((scene_of w).walk c) g → (group_lock w.tree c k.level st ≡ Some g) ⊎ (child_lock w.tree c k.level st ≡ Some g)
  said st e g q = subst (λ z. (group_lock w.tree c k.level z ≡ Some g) ⊎ (child_lock w.tree c k.level z ≡ Some g)) e (subst (λ m. HoldsBy w.tree c m g) walk_is q)

  holds : (st : Stage) → k.stage ≡ st → (g : ℕ) → (group_lock w.tree c k.level st ≡ Some g) ⊎ (child_lock w.tree c k.level st ≡ Some g) → HoldsBy w.tree c ((scene_of w).walk c) g
  holds st e g q = subst (λ m. HoldsBy w.tree c m g) (sym walk_is) (subst (λ z. (group_lock w.tree c k.level z ≡ Some g) ⊎ (child_lock w.tree c k.level z ≡ Some g)) (sym e) q)

  -- none before and after
  free_kept : (st : Stage) → k.stage ≡ st → Free w.tree c k.level st → (g : ℕ) (x : Group) → x.lock ≡ (group_of w g).lock → (y : CpuRecord) (r : Bool) → IsFree w.tree c y.walk → LocksHold w.tree (scene_of (moved w g x c y r))
  unfolding Old New IsFree
  free_kept st e f g x lock y r new = steady w g x c y r hc l lock (λ z q. absurd (free_at w.tree c k.level st f z (said st e z q))) (λ z q. absurd (new z q))

  -- both before and after
  both_kept : (st : Stage) → k.stage ≡ st → Both w.tree c k.level st → (j : Walk) → j.level ≡ k.level → Both w.tree c j.level j.stage → (g : ℕ) (x : Group) → x.lock ≡ (group_of w g).lock
      → LocksHold w.tree (scene_of (moved w g x c (with_walk (cpu_of w c) (Some j)) false))
  unfolding Old New Both
  both_kept st e was j level now g x lock = steady w g x c (with_walk (cpu_of w c) (Some j)) false hc l lock
      (λ z q. elim (said st e z q) [
        | inl a ↦ inl (now.0 ∙ (ap (group_at_of w.tree c) level ∙ (sym was.0 ∙ a)))
        | inr b ↦ inr (now.1 ∙ (ap (group_under w.tree c) level ∙ (sym was.1 ∙ b)))
      ])
      (λ z q. elim q [
        | inl a ↦ holds st e z (inl (was.0 ∙ (ap (group_at_of w.tree c) (sym level) ∙ (sym now.0 ∙ a))))
        | inr b ↦ holds st e z (inr (was.1 ∙ (ap (group_under w.tree c) (sym level) ∙ (sym now.1 ∙ b))))
      ])

  -- the group of its level, and the one below
  at_here : (st : Stage) → k.stage ≡ st → (st ≡ stages.Finish → ⊥) → (group_at_of w.tree c k.level ≡ Some (here w c k)) × (here w c k < length w.groups)
  at_here st e other =
      let g = stands_in w.tree (scene_of w) walks c (forget k) walk_is (λ z. other (sym e ∙ z)) in
      let named : here w c k ≡ g.0 = ap (λ m. unwrap_or m 0) g.1 in
      let low = h.within c k.level g.0 g.1 in
      (g.1 ∙ ap Some (sym named), omega (arith, named, low, sized.groups))

  at_child : (st : Stage) → k.stage ≡ st → (st ≡ stages.Finish → ⊥) → 0 < k.level → (group_under w.tree c k.level ≡ Some (child_here w c k)) × (child_here w c k < length w.groups)
  at_child st e other high =
      let n = above_zero k.level high in
      let g = stands_in w.tree (scene_of w) walks c (forget k) walk_is (λ z. other (sym e ∙ z)) in
      let low = h.lower c n.0 g.0 (ap (group_at_of w.tree c) (sym n.1) ∙ g.1) in
      let below : k.level - 1 ≡ n.0 = omega (arith, n.1) in
      let named : child_here w c k ≡ low.0 = ap (group_on w.tree c) below ∙ ap (λ m. unwrap_or m 0) low.1 in
      let within = h.within c n.0 low.0 low.1 in
      (ap (group_under w.tree c) n.1 ∙ (low.1 ∙ ap Some (sym named)), omega (arith, named, within, sized.groups))

  fits : (st : Stage) → k.stage ≡ st → (st ≡ stages.Finish → ⊥) → FitsStage w.tree c k.kind k.level st
  fits st e other = elim (stage_fits w.tree (scene_of w) walks c (forget k) walk_is) [
    | inl q ↦ subst (FitsStage w.tree c k.kind k.level) e q
    | inr finishing ↦ absurd (other (sym e ∙ finishing))
  ]

  lock_child : k.stage ≡ stages.LockChild → (group_of w (child_here w c k)).lock ≡ None → LocksHold w.tree (scene_of (walked w c k stages.LockChild))
  unfolding Old New Free
  lock_child e may =
      let u = at_child stages.LockChild e (λ z. cc) (fits stages.LockChild e (λ z. cc)).1 in
      taken w (child_here w c k) _ c _ false hc l u.1 may refl (inr u.0)
      (λ z q. absurd (free_at w.tree c k.level stages.LockChild (refl, refl) z (said stages.LockChild e z q)))
      (λ z q. elim q [ inl a ↦ absurd (none-some z a) | inr b ↦ inl (same_Some _ _ (sym b ∙ u.0)) ])

  lock_group : k.stage ≡ stages.LockGroup → (group_of w (here w c k)).lock ≡ None → LocksHold w.tree (scene_of (walked w c k stages.LockGroup))
  unfolding Old New Both
  lock_group e may =
      let g = at_here stages.LockGroup e (λ z. cc) in
      let both = sight_both w.tree c k.level in
      taken w (here w c k) _ c _ false hc l g.1 may refl (inl (both.0 ∙ g.0))
      (λ z q. elim (said stages.LockGroup e z q) [ inl a ↦ absurd (none-some z a) | inr b ↦ inr (both.1 ∙ b) ])
      (λ z q. elim q [ inl a ↦ inl (same_Some _ _ (sym a ∙ (both.0 ∙ g.0))) | inr b ↦ inr (holds stages.LockGroup e z (inr (sym both.1 ∙ b))) ])

  free_group : k.stage ≡ stages.FreeGroup → (n : ℕ) → n ≡ k.level → LocksHold w.tree (scene_of (moved w (here w c k) (record (group_of w (here w c k)) { lock = None }) c (with_walk (cpu_of w c) (Some (free_group_next n k))) false))
  unfolding Old New IsFree
  free_group e zero level =
      let g = at_here stages.FreeGroup e (λ z. cc) in
      given w (here w c k) _ c _ false hc l g.1 refl (holds stages.FreeGroup e (here w c k) (inl g.0))
      (λ z q. elim (said stages.FreeGroup e z q) [ inl a ↦ inl (same_Some _ _ (sym a ∙ g.0)) | inr b ↦ absurd (none-some z (ap (group_under w.tree c) level ∙ b)) ])
      (λ z q. absurd (free_freed w.tree c k.over k z q))
  free_group e (suc n) level =
      let g = at_here stages.FreeGroup e (λ z. cc) in
      given w (here w c k) _ c _ false hc l g.1 refl (holds stages.FreeGroup e (here w c k) (inl g.0))
      (λ z q. elim (said stages.FreeGroup e z q) [ inl a ↦ inl (same_Some _ _ (sym a ∙ g.0)) | inr b ↦ inr (inr b) ])
      (λ z q. elim q [
        | inl a ↦ absurd (none-some z a)
        | inr b ↦ (apart n z level (ap (group_under w.tree c) level ∙ b) g.0, holds stages.FreeGroup e z (inr b))
      ])
    where
      apart : (n z : ℕ) → suc n ≡ k.level → group_at_of w.tree c n ≡ Some z → group_at_of w.tree c k.level ≡ Some (here w c k) → z ≡ here w c k → ⊥
      apart n z level low high same =
          let one = h.one_level c c n k.level (here w c k) (low ∙ ap Some same) high in
          absurd (omega (arith, one, level))

  free_child : k.stage ≡ stages.FreeChild → LocksHold w.tree (scene_of (walked w c k stages.FreeChild))
  unfolding Old New IsFree
  free_child e =
      let u = at_child stages.FreeChild e (λ z. cc) (fits stages.FreeChild e (λ z. cc)).1 in
      given w (child_here w c k) _ c _ false hc l u.1 refl (holds stages.FreeChild e (child_here w c k) (inr u.0))
      (λ z q. elim (said stages.FreeChild e z q) [ inl a ↦ absurd (none-some z a) | inr b ↦ inl (same_Some _ _ (sym b ∙ u.0)) ])
      (λ z q. absurd (free_freed w.tree c k.over k z q))

  see_child : k.stage ≡ stages.SeeChild → (on : Bool) → LocksHold w.tree (scene_of (own w c (with_walk (cpu_of w c) (Some (see_child_next on k)))))
  unfolding Both
  see_child e true = both_kept stages.SeeChild e (refl, refl) (see_child_next true k) refl (refl, refl) 0 (group_of w 0) refl
  see_child e false = both_kept stages.SeeChild e (refl, refl) (see_child_next false k) refl (refl, refl) 0 (group_of w 0) refl

  swap : k.stage ≡ stages.Swap → (fresh on : Bool) → LocksHold w.tree (scene_of (moved w (here w c k) (left_by on (group_of w (here w c k)) (side w.tree c k.level)) c (with_walk (cpu_of w c) (Some (swap_next true k))) true))
  unfolding Free
  swap e fresh true = free_kept stages.Swap e (refl, refl) _ _ refl _ true (free_some w.tree c (swap_next true k) (lock_free w.tree c k.level))
  swap e fresh false = free_kept stages.Swap e (refl, refl) _ _ refl _ true (free_some w.tree c (swap_next true k) (lock_free w.tree c k.level))

  swapped_kept : k.stage ≡ stages.Swap → (fresh : Bool) → LocksHold w.tree (scene_of (swapped w c k fresh))
  unfolding Free
  swapped_kept e true = swap e true k.child_on
  swapped_kept e false = free_kept stages.Swap e (refl, refl) 0 (group_of w 0) refl _ false (free_some w.tree c (swap_next false k) (refl, refl))

  finish : k.stage ≡ stages.Finish → (kind : WalkKind) → LocksHold w.tree (scene_of (own w c (finished (cpu_of w c) k kind)))
  unfolding Free
  finish e kinds.Activate = free_kept stages.Finish e (refl, refl) 0 (group_of w 0) refl _ false (free_none w.tree c)
  finish e kinds.Deactivate = free_kept stages.Finish e (refl, refl) 0 (group_of w 0) refl _ false (free_none w.tree c)
  finish e kinds.Offline = free_kept stages.Finish e (refl, refl) 0 (group_of w 0) refl _ false (free_handing w.tree c (k.first == NEVER) k)
  finish e kinds.Reeval = free_kept stages.Finish e (refl, refl) 0 (group_of w 0) refl _ false (free_none w.tree c)
  finish e (kinds.Remote by) = free_kept stages.Finish e (refl, refl) 0 (group_of w 0) refl _ false (free_none w.tree c)

  pub by_stage : (st : Stage) → k.stage ≡ st → MayGoOn w c k st → LocksHold w.tree (scene_of (walked w c k st))
  unfolding Free Both
  by_stage stages.Own e may = free_kept stages.Own e (refl, refl) _ _ refl _ false (free_some w.tree c (at_stage k stages.Up) (refl, refl))
  by_stage stages.Up e may = free_kept stages.Up e (refl, refl) _ _ refl _ true (free_up w.tree c _ _ k)
  by_stage (stages.Mark more) e may = free_kept (stages.Mark more) e (refl, refl) _ _ refl _ false (free_mark w.tree c more k)
  by_stage stages.Read e may = free_kept stages.Read e (refl, refl) 0 (group_of w 0) refl _ false (free_some w.tree c (record k { fresh = true; stage = stages.Child }) (refl, refl))
  by_stage stages.Child e may = free_kept stages.Child e (refl, refl) 0 (group_of w 0) refl _ false (free_some w.tree c (record k { child_on = child_on w c k.level; stage = stages.Swap }) (refl, refl))
  by_stage stages.Swap e may = swapped_kept e k.fresh
  by_stage stages.LockChild e may = lock_child e may
  by_stage stages.LockGroup e may = lock_group e may
  by_stage stages.SeeChild e may = see_child e (child_on w c k.level)
  by_stage stages.SeeGroup e may = both_kept stages.SeeGroup e (refl, refl) _ refl (after_both w.tree c k.level) 0 (group_of w 0) refl
  by_stage (stages.Scan j) e may = both_kept (stages.Scan j) e (refl, refl) _ refl (both_cond w.tree c k.level (j == 7) stages.Store (stages.Scan (j + 1)) (refl, refl) (refl, refl)) 0 (group_of w 0) refl
  by_stage stages.Store e may = both_kept stages.Store e (refl, refl) _ refl
      (both_cond w.tree c k.level (at_top w.tree c k.level && (not k.on && not (is_remote k.kind))) (stages.First 0) stages.FreeGroup (refl, refl) (refl, refl)) _ _ refl
  by_stage (stages.First j) e may = both_kept (stages.First j) e (refl, refl) _ refl (both_cond w.tree c k.level (j == 7) stages.FreeGroup (stages.First (j + 1)) (refl, refl) (refl, refl)) 0 (group_of w 0) refl
  by_stage stages.FreeGroup e may = free_group e k.level refl
  by_stage stages.FreeChild e may = free_child e
  by_stage stages.Finish e may = finish e k.kind
  by_stage stages.Handing e may = absurd may

  pub handed : k.stage ≡ stages.Handing → LocksHold w.tree (scene_of (own w c (with_walk (cpu_of w c) None)))
  unfolding Free
  handed e = free_kept stages.Handing e (refl, refl) 0 (group_of w 0) refl _ false (free_none w.tree c)

quiet : (w : World) (step : Step) → LocksHold w.tree (scene_of w) → Enabled w step → is_quiet step ≡ true → LocksHold w.tree (scene_of (stepped w step))
quiet w step l e q = subst (LocksHold w.tree) (sym (quiet_steps w step e q)) l

pub locks_stay : LocksStay
unfolding Free
locks_stay w (steps.Idle cpu) h sized walks l e = begins_free w cpu.0 _ e.is_free.in_range l e.is_free.free (free_begun w.tree cpu.0 _ kinds.Deactivate stages.Read _ _ (refl, refl))
locks_stay w (steps.Offline cpu) h sized walks l e = begins_free w cpu.0 _ e.is_free.in_range l e.is_free.free (free_begun w.tree cpu.0 _ kinds.Offline stages.Read _ _ (refl, refl))
locks_stay w (steps.Wake cpu) h sized walks l e = begins_free w cpu.0 _ e.is_free.in_range l e.is_free.free (free_begun w.tree cpu.0 _ kinds.Activate stages.Own _ _ (refl, refl))
locks_stay w (steps.Online cpu) h sized walks l e = begins_free w cpu.0 _ e.is_free.in_range l e.is_free.free (free_begun w.tree cpu.0 _ kinds.Activate stages.Own _ _ (refl, refl))
locks_stay w (steps.Reeval cpu) h sized walks l e = begins_free w cpu.0 _ e.is_free.in_range l e.is_free.free (free_begun w.tree cpu.0 _ kinds.Reeval stages.LockGroup _ _ (refl, refl))
locks_stay w (steps.Carry cpu) h sized walks l e = begins_free w cpu.0 _ e.is_free.in_range l e.is_free.free (free_begun w.tree cpu.0 _ (kinds.Remote _) stages.LockGroup _ _ (refl, refl))
locks_stay w (steps.HandOn cpu to) h sized walks l e = handed w cpu.0 e.made e.in_range h sized walks l e.walk e.handing
locks_stay w (steps.Walk cpu) h sized walks l e =
    subst (λ m. LocksHold w.tree (scene_of (walk_made w cpu.0 m))) (sym e.walk) (by_stage w cpu.0 e.made e.in_range h sized walks l e.walk e.made.stage refl e.may_go_on)
locks_stay w (steps.Clock now) h sized walks l e = quiet w (steps.Clock now) l e refl
locks_stay w (steps.Enter cpu) h sized walks l e = quiet w (steps.Enter cpu) l e refl
locks_stay w (steps.Leave cpu) h sized walks l e = quiet w (steps.Leave cpu) l e refl
locks_stay w (steps.Arm cpu timer class expires job arg line) h sized walks l e = quiet w (steps.Arm cpu timer class expires job arg line) l e refl
locks_stay w (steps.Cancel cpu timer by line) h sized walks l e = quiet w (steps.Cancel cpu timer by line) l e refl
locks_stay w (steps.Hand cpu timer runner) h sized walks l e = quiet w (steps.Hand cpu timer runner) l e refl
locks_stay w (steps.Ticked cpu class runner) h sized walks l e = quiet w (steps.Ticked cpu class runner) l e refl
locks_stay w (steps.Move from to timer) h sized walks l e = quiet w (steps.Move from to timer) l e refl
locks_stay w (steps.Take cpu by) h sized walks l e = quiet w (steps.Take cpu by) l e refl
locks_stay w (steps.Release cpu) h sized walks l e = quiet w (steps.Release cpu) l e refl
