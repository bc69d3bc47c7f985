-- a walk that tells comes to its end
use Rattle.std.proofs.Common.{◌≡◌, ◌⊎◌, inl, inr, ℕ, zero, suc, ◌+◌, ◌*◌, ◌<◌, ◌≤◌, Bool, true}
use Rattle.std.proofs.Common.{false, true≢false, cond, Some, None, refl, sym, ap, ◌∙◌, subst, arith}
use Rattle.std.specs.Prelude.{◌==◌}
use Rattle.tm_base.specs.declared.names.TheConstants.{NEVER}
use Rattle.tree_plan.specs.Paths.{group_at_of, level_count_of}
use Rattle.walk_rules.specs.declared.walk.Walk.{Walk}
use Rattle.walk_rules.specs.declared.walk.WalkKind.{WalkKind}
use Rattle.walk_rules.specs.declared.walk.WalkKind.TheVariants as kinds
use Rattle.walk_rules.specs.declared.walk.Stage.{Stage}
use Rattle.walk_rules.specs.declared.walk.Stage.TheVariants as stages
use Rattle.walk_rules.specs.Hierarchy.{HasGroup}
use Rattle.walk_rules.specs.Stages.{at_stage, forget}
use Rattle.core_facts.specs.core_laws.Laws.{StepsStayLawful}
use Rattle.core_world.specs.Steps.{finished, walk_made, walked}
use Rattle.core_world.specs.World.{CpuRecord, World, cpu_of, group_of, own}
use Rattle.core_world.proofs.Moves.{cpu_same}
use Rattle.step_play.specs.Rules.Alone.{goes_on, is_handing, most_steps, walk_steps, walked_out}
use Rattle.step_play.proofs.Activation.Walking.{goes, onwards, stays, walks_out}
use Rattle.step_play.proofs.Telling.Freeing.{free_child, free_group}
use Rattle.step_play.proofs.Telling.Looking.{child, find, lock_child, lock_group, read, scan}
use Rattle.step_play.proofs.Telling.Looking.{see_child}
use Rattle.step_play.proofs.Telling.Looking.{see_group}
use Rattle.step_play.proofs.Telling.Standing.{fits, seen}
use Rattle.step_play.proofs.Telling.Staying.{walk_is}
use Rattle.step_play.proofs.Telling.Storing.{store}
use Rattle.step_play.proofs.Telling.Swapping.{swap}
use Rattle.step_play.proofs.Telling.Telling.{Fields, IsFurther, Tells, place, way}

-- a walk's last step leaves none that goes on
last_stands : (y : CpuRecord) (k : Walk) (kind : WalkKind) →
    goes_on (finished y k kind).walk ≡ false
last_stands y k kinds.Activate = refl
last_stands y k kinds.Deactivate = refl
last_stands y k kinds.Offline = by_found (k.first == NEVER)
  where
    by_found : (none : Bool) → goes_on (cond none None (Some (at_stage k stages.Handing))) ≡ false
    by_found true = refl
    by_found false = refl
last_stands y k kinds.Reeval = refl
last_stands y k (kinds.Remote by) = refl

-- a stage at which a walk that tells stands goes on
goes_by : (w : World) (c : ℕ) (k : Walk) (st : Stage) → k.stage ≡ st → Fields w c k st →
    goes_on (Some k) ≡ true
goes_by w c k stages.Own at f = absurd f
goes_by w c k stages.Up at f = absurd f
goes_by w c k (stages.Mark more) at f = absurd f
goes_by w c k stages.Read at f = ap (λ s. cond (is_handing s) false true) at
goes_by w c k stages.Child at f = ap (λ s. cond (is_handing s) false true) at
goes_by w c k stages.Swap at f = ap (λ s. cond (is_handing s) false true) at
goes_by w c k stages.LockChild at f = ap (λ s. cond (is_handing s) false true) at
goes_by w c k stages.LockGroup at f = ap (λ s. cond (is_handing s) false true) at
goes_by w c k stages.SeeChild at f = ap (λ s. cond (is_handing s) false true) at
goes_by w c k stages.SeeGroup at f = ap (λ s. cond (is_handing s) false true) at
goes_by w c k (stages.Scan n) at f = ap (λ s. cond (is_handing s) false true) at
goes_by w c k stages.Store at f = ap (λ s. cond (is_handing s) false true) at
goes_by w c k (stages.First n) at f = ap (λ s. cond (is_handing s) false true) at
goes_by w c k stages.FreeGroup at f = ap (λ s. cond (is_handing s) false true) at
goes_by w c k stages.FreeChild at f = ap (λ s. cond (is_handing s) false true) at
goes_by w c k stages.Finish at f = ap (λ s. cond (is_handing s) false true) at
goes_by w c k stages.Handing at f = absurd f

-- THE END: the walk came to Finish, and made that step
pub record HasEnded (old : World) (c : ℕ) (made : Walk) (w : World) : Type 0 where
  pub before : World
  pub last : Walk
  pub tells : Tells old c made before last
  pub finish : last.stage ≡ stages.Finish
  pub step : w ≡ onwards c before

module _ (laws : StepsStayLawful) (old : World) (c : ℕ) (made : Walk) where
  -- A STEP at each stage: the walk comes further or to its end
  module _ (w : World) (k : Walk) (t : Tells old c made w k) where
    pub step_is : (st : Stage) → k.stage ≡ st → onwards c w ≡ walked w c k st
    step_is st at = ap (walk_made w c) (walk_is t) ∙ ap (walked w c k) at

    pub goes_still : goes_on (cpu_of w c).walk ≡ true
    goes_still = ap goes_on (walk_is t) ∙ goes_by w c k k.stage refl t.fields

    by_stage : (st : Stage) → k.stage ≡ st → Fields w c k st →
        (st ≡ stages.Finish) ⊎ IsFurther old c made k (walked w c k st)
    by_stage stages.Own at f = absurd f
    by_stage stages.Up at f = absurd f
    by_stage (stages.Mark more) at f = absurd f
    by_stage stages.Read at f = inr (read laws t at)
    by_stage stages.Child at f = inr (child laws t at)
    by_stage stages.Swap at f = inr (swap laws t at)
    by_stage stages.LockChild at f = inr (lock_child laws t at)
    by_stage stages.LockGroup at f = inr (lock_group laws t at)
    by_stage stages.SeeChild at f = inr (see_child laws t at)
    by_stage stages.SeeGroup at f = inr (see_group laws t at)
    by_stage (stages.Scan n) at f = inr (scan laws t n at)
    by_stage stages.Store at f = inr (store laws t at)
    by_stage (stages.First n) at f = inr (find laws t n at)
    by_stage stages.FreeGroup at f = inr (free_group laws t at)
    by_stage stages.FreeChild at f = inr (free_child laws t at)
    by_stage stages.Finish at f = inl refl
    by_stage stages.Handing at f = absurd f

    -- the place in a level is below 32
    placed_by : (st : Stage) → k.stage ≡ st → Fields w c k st → place st < 32
    placed_by stages.Own at f = absurd f
    placed_by stages.Up at f = absurd f
    placed_by (stages.Mark more) at f = absurd f
    placed_by stages.Read at f = omega arith
    placed_by stages.Child at f = omega arith
    placed_by stages.Swap at f = omega arith
    placed_by stages.LockChild at f = omega arith
    placed_by stages.LockGroup at f = omega arith
    placed_by stages.SeeChild at f = omega arith
    placed_by stages.SeeGroup at f = omega arith
    placed_by (stages.Scan n) at f =
        let fit = fits t (stages.Scan n) at refl in
        omega (arith, fit.2)
    placed_by stages.Store at f = omega arith
    placed_by (stages.First n) at f =
        let fit = fits t (stages.First n) at refl in
        omega (arith, fit.2)
    placed_by stages.FreeGroup at f = omega arith
    placed_by stages.FreeChild at f = omega arith
    placed_by stages.Finish at f = omega arith
    placed_by stages.Handing at f = absurd f

    -- Finish is the last step
    ends : k.stage ≡ stages.Finish → HasEnded old c made (onwards c w)
    ends at = record { before = w; last = k; tells = t; finish = at; step = refl }

    next : HasEnded old c made (onwards c w) ⊎ IsFurther old c made k (onwards c w)
    next = elim (by_stage k.stage refl t.fields) [
      | inl at ↦ inl (ends at)
      | inr go ↦ inr (subst (IsFurther old c made k) (sym (step_is k.stage refl)) go)
    ]

  ended_stands : (w : World) → HasEnded old c made w → goes_on (cpu_of w c).walk ≡ false
  ended_stands w e =
      let b = e.before in
      let k = e.last in
      let y = finished (cpu_of b c) k k.kind in
      let same : cpu_of (own b c y) c ≡ y =
      cpu_same b 0 (group_of b 0) c y false e.tells.frame.in_range in
      ap (λ v. goes_on (cpu_of v c).walk) (e.step ∙ step_is b k e.tells stages.Finish e.finish)
      ∙ (ap (λ (x : CpuRecord). goes_on x.walk) same ∙ last_stands (cpu_of b c) k k.kind)

  -- TO THE END, where the CPU has a group
  module _ (has : HasGroup old.tree c) (deep : (l g : ℕ) → group_at_of old.tree c l ≡ Some g →
      l < level_count_of old.tree) where
    abbrev all : ℕ
    all = 32 * (level_count_of old.tree + 1)

    pub record Runs (n : ℕ) (w : World) : Type 0 where
      pub walk : Walk
      pub tells : Tells old c made w walk
      pub left : all ≤ n + way walk.level walk.stage

    low : (w : World) (k : Walk) → Tells old c made w k → way k.level k.stage < all
    low w k t =
        let has_now : HasGroup w.tree c = subst (λ s. HasGroup s c) (sym t.frame.tree) has in
        let at = (t.frame.lawful.placed.in_tree c (forget k) (seen t) has_now).there in
        let level = deep k.level at.0
        (subst (λ s. group_at_of s c k.level ≡ Some at.0) t.frame.tree at.1) in
        let spot = placed_by w k t k.stage refl t.fields in
        omega (arith, level, spot)

    abbrev Going : ℕ → World → Type 0
    Going n w = Runs n w ⊎ HasEnded old c made w

    steps_on : (n : ℕ) (w : World) → Going (suc n) w → goes_on (cpu_of w c).walk ≡ true →
        Going n (onwards c w)
    steps_on n w (inl r) on = elim (next w r.walk r.tells) [
      | inl e ↦ inr e
      | inr f ↦ inl (record {
        walk = f.next;
        tells = f.tells;
        left = omega (arith, f.further, r.left);
      })
    ]
    steps_on n w (inr e) on = absurd (true≢false (sym on ∙ ended_stands w e))

    no_more : (w : World) → Going 0 w → goes_on (cpu_of w c).walk ≡ false
    no_more w (inl r) = let few = low w r.walk r.tells in absurd (omega (arith, few, r.left))
    no_more w (inr e) = ended_stands w e

    pub runs_out : Tells old c made old made → HasEnded old c made (walked_out c old)
    runs_out t =
        let end = walks_out c Going steps_on no_more (most_steps old) old (omega arith)
        (inl (record { walk = made; tells = t; left = omega arith })) in
        elim end.holds [
          | inl r ↦ absurd (true≢false (sym (goes_still (walked_out c old) r.walk r.tells)
              ∙ end.stands))
          | inr e ↦ e
        ]

  -- and where it has none, and begins at the end
  pub ends_at_once : Tells old c made old made → made.stage ≡ stages.Finish →
      HasEnded old c made (walked_out c old)
  ends_at_once t at = by_count (most_steps old) (omega arith)
    where
      ended : HasEnded old c made (onwards c old)
      ended = ends old made t at

      by_count : (n : ℕ) → 0 < n → HasEnded old c made (walk_steps n c old)
      by_count zero few = absurd (omega arith)
      by_count (suc n) few = subst (HasEnded old c made)
          (sym (goes c n old (goes_still old made t)
          ∙ stays c n (onwards c old) (ended_stands (onwards c old) ended))) ended
