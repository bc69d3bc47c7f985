-- for crates above: a walk that alone goes on comes to its end, wherever it stands
use Rattle.std.proofs.Common.{◌≡◌, inl, inr, ℕ, zero, suc, ◌+◌, ◌*◌, ◌-◌, ◌<◌, ◌≤◌, cond, Bool}
use Rattle.std.proofs.Common.{true, false, true≢false}
use Rattle.std.proofs.Common.{Option, Some, None, length, refl, sym, ap, ◌∙◌, subst, arith}
use Rattle.std.specs.Prelude.{◌==◌, option_map}
use Rattle.std.proofs.lemmas.Bool.{cases_Bool, cases_lt}
use Rattle.std.proofs.lemmas.Option.{none-some}
use Rattle.tm_base.specs.declared.names.TheConstants.{NEVER}
use Rattle.tree_plan.specs.Shape.{Shape}
use Rattle.tree_plan.specs.Laws.{PathLaws}
use Rattle.tree_plan.specs.Paths.{group_at_of, level_count_of}
use Rattle.walk_rules.specs.declared.walk.Walk.{Walk}
use Rattle.walk_rules.specs.declared.walk.WalkKind.{WalkKind}
use Rattle.walk_rules.specs.declared.walk.WalkKind.TheVariants as kinds
use Rattle.walk_rules.specs.declared.walk.Stage.{Stage}
use Rattle.walk_rules.specs.declared.walk.Stage.TheVariants as stages
use Rattle.walk_rules.specs.Hierarchy.{at_top}
use Rattle.walk_rules.specs.Scene.{Group, no_group}
use Rattle.walk_rules.specs.Stages.{after_sight, at_stage, first_lock, first_sight, first_stage}
use Rattle.walk_rules.specs.Stages.{forget, free_group_next, freed_next, mark_next, see_child_next}
use Rattle.walk_rules.specs.Stages.{up_next}
use Rattle.walk_rules.specs.Standing.{FitsStage, FlagsAt}
use Rattle.core_world.specs.declared.step.Step.TheVariants as steps
use Rattle.core_world.specs.Frames.{SizesStay}
use Rattle.core_world.specs.Lawful.{IsLawful}
use Rattle.core_world.specs.Steps.{finished, here, swapped, walk_made, walked}
use Rattle.core_world.specs.World.{CpuRecord, World, cpu_of, moved, scene_of}
use Rattle.core_world.proofs.Moves.{cpu_same}
use Rattle.core_steps.proofs.core_laws.Walks.Fits.{goes_on as above_of}
use Rattle.core_steps.proofs.core_laws.Walks.Stands.{stage_fits, stands_in}
use Rattle.core_steps.specs.core_laws.Laws.{StepsStayLawful}
use Rattle.step_play.specs.Rules.Alone.{goes_on, is_handing, most_steps, walked_out}
use Rattle.step_play.proofs.Activation.Walking.{onwards, walks_out}
use Rattle.step_play.specs.Rules.Lone.{IsLone}
use Rattle.step_play.proofs.Lone.{lone_made, may_walk, on_unless}

-- STEPS LEFT at a level: a reading that isn't fresh is made once more
abbrev place : Stage → (fresh : Bool) → ℕ
place stages.Own fresh = 2
place stages.Up fresh = 1
place (stages.Mark more) fresh = 0
place stages.Read fresh = 26
place stages.Child true = 25
place stages.Child false = 27
place stages.Swap true = 24
place stages.Swap false = 26
place stages.LockChild fresh = 23
place stages.LockGroup fresh = 22
place stages.SeeChild fresh = 21
place stages.SeeGroup fresh = 20
place (stages.Scan j) fresh = 19 - j
place stages.Store fresh = 11
place (stages.First j) fresh = 10 - j
place stages.FreeGroup fresh = 2
place stages.FreeChild fresh = 1
place stages.Finish fresh = 0
place stages.Handing fresh = 0

-- and at this level and those above
abbrev left : (levels level : ℕ) → Stage → (fresh : Bool) → ℕ
left levels level st fresh =
    cond (is_handing st) 0 (suc (32 * (levels - suc level) + place st fresh))

-- a walk has fewer than n steps left
abbrev Falls : (levels n : ℕ) → Option Walk → Type 0
Falls levels n None = Unit {0}
Falls levels n (Some k) = left levels k.level k.stage k.fresh < n

-- where a walk goes at a level
module _ (levels l n : ℕ) (b : Bool) where
  abbrev base : ℕ
  base = 32 * (levels - suc l)

  lock_falls : left levels l (first_lock n) b < suc (base + 24)
  lock_falls = by_level n
    where
      by_level : (m : ℕ) → left levels l (first_lock m) b < suc (base + 24)
      by_level zero = omega arith
      by_level (suc m) = omega arith

  sight_falls : left levels l (first_sight n) b < suc (base + 22)
  sight_falls = by_level n
    where
      by_level : (m : ℕ) → left levels l (first_sight m) b < suc (base + 22)
      by_level zero = omega arith
      by_level (suc m) = omega arith

  after_falls : left levels l (after_sight n) b < suc (base + 20)
  after_falls = by_level n
    where
      by_level : (m : ℕ) → left levels l (after_sight m) b < suc (base + 20)
      by_level zero = omega arith
      by_level (suc m) = omega arith

-- one level higher
higher_falls : (levels l : ℕ) (kind : WalkKind) → suc l < levels →
    left levels (suc l) (first_stage kind) false < suc (32 * (levels - suc l) + 1)
higher_falls levels l kinds.Activate low = omega (arith, low)
higher_falls levels l kinds.Deactivate low = omega (arith, low)
higher_falls levels l kinds.Offline low = omega (arith, low)
higher_falls levels l kinds.Reeval low = omega (arith, low)
higher_falls levels l (kinds.Remote by) low = omega (arith, low)

module _ (levels : ℕ) (k : Walk) where
  abbrev rest : ℕ
  rest = 32 * (levels - suc k.level)

  up_falls : (top more : Bool) → Falls levels (suc (rest + 1)) (up_next top more k)
  up_falls true more = tt
  up_falls false more = omega arith

  mark_falls : (more : Bool) → suc k.level < levels
      → Falls levels (suc (rest + 0)) (mark_next more k)
  mark_falls true low = omega (arith, low)
  mark_falls false low = tt

  child_falls : (b : Bool) → left levels k.level stages.Swap b < left levels k.level stages.Child b
  child_falls true = omega arith
  child_falls false = omega arith

  see_falls : (on : Bool) → Falls levels (suc (rest + 21)) (Some (see_child_next on k))
  see_falls true = omega arith
  see_falls false = omega arith

  scan_falls : (j : ℕ) (seven : Bool) → j < 8 →
      left levels k.level (cond seven stages.Store (stages.Scan (j + 1))) k.fresh
      < suc (rest + (19 - j))
  scan_falls j true low = omega (arith, low)
  scan_falls j false low = omega (arith, low)

  find_falls : (j : ℕ) (seven : Bool) → j < 8 →
      left levels k.level (cond seven stages.FreeGroup (stages.First (j + 1))) k.fresh
      < suc (rest + (10 - j))
  find_falls j true low = omega (arith, low)
  find_falls j false low = omega (arith, low)

  store_falls : (b : Bool) →
      left levels k.level (cond b (stages.First 0) stages.FreeGroup) k.fresh < suc (rest + 11)
  store_falls true = omega arith
  store_falls false = omega arith

  freed_falls : (over : Bool) → (over ≡ false → suc k.level < levels) →
      Falls levels (suc (rest + 1)) (Some (freed_next over k))
  freed_falls true low = omega arith
  freed_falls false low = higher_falls levels k.level k.kind (low refl)

  more_falls : (over : Bool) → (over ≡ false → suc k.level < levels) →
      Falls levels (suc (rest + 2)) (Some (freed_next over k))
  more_falls over low = let less = freed_falls over low in omega (arith, less)

  free_falls : (n : ℕ) → (k.over ≡ false → suc k.level < levels) →
      Falls levels (suc (rest + 2)) (Some (free_group_next n k))
  free_falls zero low = more_falls k.over low
  free_falls (suc n) low = omega arith

  end_falls : (y : CpuRecord) (kind : WalkKind)
      → Falls levels (suc (rest + 0)) (finished y k kind).walk
  end_falls y kinds.Activate = tt
  end_falls y kinds.Deactivate = tt
  end_falls y kinds.Offline = by_found (k.first == NEVER)
    where
      by_found : (none : Bool) →
          Falls levels (suc (rest + 0)) (cond none None (Some (at_stage k stages.Handing)))
      by_found true = tt
      by_found false = omega arith
  end_falls y kinds.Reeval = tt
  end_falls y (kinds.Remote by) = tt

-- a path has no group at the number of levels or above
below_count : (t : Shape) → PathLaws t → (c l g : ℕ) → group_at_of t c l ≡ Some g →
    l < level_count_of t
below_count t paths c l g at = elim (cases_lt l (level_count_of t)) [
  | inl low ↦ low
  | inr high ↦ absurd (none-some g (sym (paths.beyond c l (omega arith)) ∙ at))
]

not_over : (top over : Bool) → (top ≡ true → over ≡ true) → over ≡ false → top ≡ false
not_over true over law e = absurd (true≢false (sym (law refl) ∙ e))
not_over false over law e = refl

-- where a walk stands
module _ (w : World) (c : ℕ) (k : Walk) (lawful : IsLawful w) (is : (cpu_of w c).walk ≡ Some k)
  where
    seen : (scene_of w).walk c ≡ Some (forget k)
    seen = ap (option_map forget) is

    there : (k.stage ≡ stages.Finish → ⊥) → (g : ℕ) × (group_at_of w.tree c k.level ≡ Some g)
    there other = stands_in w.tree (scene_of w) (record {
      placed = lawful.placed;
      flags = lawful.flags;
      walkers = lawful.walkers;
    }) c (forget k) seen other

    pub fits : (st : Stage) → k.stage ≡ st → (st ≡ stages.Finish → ⊥) →
        FitsStage w.tree c k.kind k.level st
    fits st at other = elim (stage_fits w.tree (scene_of w) (record {
      placed = lawful.placed;
      flags = lawful.flags;
      walkers = lawful.walkers;
    }) c (forget k) seen) [
      | inl fit ↦ subst (FitsStage w.tree c k.kind k.level) at fit
      | inr finish ↦ absurd (other (sym at ∙ finish))
    ]

-- A STEP of a walk leaves it fewer steps
module _ (w : World) (c : ℕ) (k : Walk) (low : c < length w.cpus) (lawful : IsLawful w)
    (paths : PathLaws w.tree) (is : (cpu_of w c).walk ≡ Some k) where
  abbrev levels : ℕ
  levels = level_count_of w.tree

  written : (g : ℕ) (x : Group) (y : CpuRecord) (r : Bool) (n : ℕ) → Falls levels n y.walk →
      Falls levels n (cpu_of (moved w g x c y r) c).walk
  written g x y r n less = subst (λ (z : CpuRecord). Falls levels n z.walk)
      (sym (cpu_same w g x c y r low)) less

  deeper : (g : ℕ) → group_at_of w.tree c (suc k.level) ≡ Some g → suc k.level < levels
  deeper g at = below_count w.tree paths c (suc k.level) g at

  flags : (st : Stage) → k.stage ≡ st → (st ≡ stages.Finish → ⊥) →
      FlagsAt (at_top w.tree c k.level) k.on k.over st
  flags st at other =
      let g = there w c k lawful is (λ e. other (sym at ∙ e)) in
      subst (FlagsAt (at_top w.tree c k.level) k.on k.over) at
      (lawful.flags c (forget k) (seen w c k lawful is) (has k.level g.0 g.1))
    where
      has : (l g : ℕ) → group_at_of w.tree c l ≡ Some g →
          (h : ℕ) × (group_at_of w.tree c 0 ≡ Some h)
      has zero g at = (g, at)
      has (suc l) g at = let p = lawful.hierarchy.lower c l g at in has l p.0 p.1

  goes_higher : (top : at_top w.tree c k.level ≡ true → k.over ≡ true) → k.over ≡ false →
      suc k.level < levels
  goes_higher top over =
      let p = above_of (group_at_of w.tree c (suc k.level))
      (not_over (at_top w.tree c k.level) k.over top over) in
      deeper p.0 p.1

  swap_falls : (b : Bool) → Falls levels (left levels k.level stages.Swap b)
      (cpu_of (swapped w c k b) c).walk
  swap_falls true = written (here w c k) no_group _ true _
      (lock_falls levels k.level k.level k.fresh)
  swap_falls false = written 0 no_group _ false _ (omega arith)

  falls : (st : Stage) → k.stage ≡ st → is_handing st ≡ false →
      Falls levels (left levels k.level st k.fresh) (cpu_of (walked w c k st) c).walk
  falls stages.Own at on = written 0 no_group _ false _ (omega arith)
  falls stages.Up at on = written (here w c k) no_group _ true _ (up_falls levels k _ _)
  falls (stages.Mark more) at on =
      let fit = fits w c k lawful is (stages.Mark more) at (λ e. cc) in
      written 0 no_group _ false _ (mark_falls levels k more (deeper fit.1.0 fit.1.1))
  falls stages.Read at on = written 0 no_group _ false _ (omega arith)
  falls stages.Child at on = written 0 no_group _ false _ (child_falls levels k k.fresh)
  falls stages.Swap at on = swap_falls k.fresh
  falls stages.LockChild at on = written 0 no_group _ false _ (omega arith)
  falls stages.LockGroup at on = written 0 no_group _ false _
      (sight_falls levels k.level k.level k.fresh)
  falls stages.SeeChild at on = written 0 no_group _ false _ (see_falls levels k _)
  falls stages.SeeGroup at on = written 0 no_group _ false _
      (after_falls levels k.level k.level k.fresh)
  falls (stages.Scan j) at on =
      let fit = fits w c k lawful is (stages.Scan j) at (λ e. cc) in
      written 0 no_group _ false _ (scan_falls levels k j (j == 7) fit.2)
  falls stages.Store at on = written 0 no_group _ false _ (store_falls levels k _)
  falls (stages.First j) at on =
      let fit = fits w c k lawful is (stages.First j) at (λ e. cc) in
      written 0 no_group _ false _ (find_falls levels k j (j == 7) fit.2)
  falls stages.FreeGroup at on = written 0 no_group _ false _
      (free_falls levels k k.level (goes_higher (flags stages.FreeGroup at (λ e. cc))))
  falls stages.FreeChild at on = written 0 no_group _ false _
      (freed_falls levels k k.over (goes_higher (flags stages.FreeChild at (λ e. cc))))
  falls stages.Finish at on = written 0 no_group _ false _ (end_falls levels k (cpu_of w c) k.kind)
  falls stages.Handing at on = absurd (true≢false on)

some_left : (levels l : ℕ) (st : Stage) (b : Bool) → left levels l st b < 1 → is_handing st ≡ true
some_left levels l st b few = elim (cases_Bool (is_handing st)) [
  | inl e ↦ e
  | inr e ↦
      let same : left levels l st b ≡ suc (32 * (levels - suc l) + place st b) =
      ap (λ q. cond q 0 (suc (32 * (levels - suc l) + place st b))) e in
      absurd (omega (arith, few, same))
]

few_left : (levels l : ℕ) (st : Stage) (b : Bool) → left levels l st b < suc (32 * (levels + 1))
few_left levels l stages.Own b = omega arith
few_left levels l stages.Up b = omega arith
few_left levels l (stages.Mark more) b = omega arith
few_left levels l stages.Read b = omega arith
few_left levels l stages.Child true = omega arith
few_left levels l stages.Child false = omega arith
few_left levels l stages.Swap true = omega arith
few_left levels l stages.Swap false = omega arith
few_left levels l stages.LockChild b = omega arith
few_left levels l stages.LockGroup b = omega arith
few_left levels l stages.SeeChild b = omega arith
few_left levels l stages.SeeGroup b = omega arith
few_left levels l (stages.Scan j) b = omega arith
few_left levels l stages.Store b = omega arith
few_left levels l (stages.First j) b = omega arith
few_left levels l stages.FreeGroup b = omega arith
few_left levels l stages.FreeChild b = omega arith
few_left levels l stages.Finish b = omega arith
few_left levels l stages.Handing b = omega arith

few_at : (n : ℕ) (m : Option Walk) → Falls n (suc (32 * (n + 1))) m
few_at n None = tt
few_at n (Some k) = few_left n k.level k.stage k.fresh

-- TO THE END
module _ (laws : StepsStayLawful) (sizes : SizesStay) (old : World) (c : ℕ)
    (paths : PathLaws old.tree) where
  record Runs (n : ℕ) (w : World) : Type 0 where
    pub in_range : c < length w.cpus
    pub lawful : IsLawful w
    pub lone : IsLone w c
    pub tree : w.tree ≡ old.tree
    pub left : Falls (level_count_of w.tree) (suc n) (cpu_of w c).walk

  next_left : (n : ℕ) (w : World) (r : Runs (suc n) w) → goes_on (cpu_of w c).walk ≡ true →
      Falls (level_count_of w.tree) (suc n) (cpu_of (onwards c w) c).walk
  next_left n w r on = by_walk (cpu_of w c).walk refl on r.left
    where
      fewer : (levels a : ℕ) (m : Option Walk) → Falls levels a m → a ≤ suc n
          → Falls levels (suc n) m
      fewer levels a None less few = tt
      fewer levels a (Some j) less few = omega (arith, less, few)

      by_walk : (m : Option Walk) → (cpu_of w c).walk ≡ m → goes_on m ≡ true →
          Falls (level_count_of w.tree) (suc (suc n)) m →
          Falls (level_count_of w.tree) (suc n) (cpu_of (onwards c w) c).walk
      by_walk None is on few = absurd (true≢false (sym on))
      by_walk (Some k) is on few =
          subst (λ v. Falls (level_count_of w.tree) (suc n) (cpu_of v c).walk)
          (sym (ap (walk_made w c) is))
          (fewer _ (left (level_count_of w.tree) k.level k.stage k.fresh) _
          (falls w c k r.in_range r.lawful (subst PathLaws (sym r.tree) paths) is k.stage refl
          (on_unless (is_handing k.stage) on)) (omega (arith, few)))

  steps_on : (n : ℕ) (w : World) → Runs (suc n) w → goes_on (cpu_of w c).walk ≡ true →
      Runs n (onwards c w)
  steps_on n w r on =
      let step = steps.Walk (record { 0 = c }) in
      let same = sizes w step in
      record {
        in_range = subst (λ m. c < m) (sym same.cpus) r.in_range;
        lawful = laws w step r.lawful (may_walk w c r.in_range r.lawful r.lone on);
        lone = lone_made w c r.lone (cpu_of w c).walk;
        tree = same.tree ∙ r.tree;
        left = subst (λ t. Falls (level_count_of t) (suc n) (cpu_of (onwards c w) c).walk)
            (sym same.tree) (next_left n w r on);
      }

  no_more : (w : World) → Runs 0 w → goes_on (cpu_of w c).walk ≡ false
  no_more w r = by_walk (cpu_of w c).walk r.left
    where
      by_walk : (m : Option Walk) → Falls (level_count_of w.tree) 1 m → goes_on m ≡ false
      by_walk None few = refl
      by_walk (Some k) few = ap (λ b. cond b false true)
          (some_left (level_count_of w.tree) k.level k.stage k.fresh few)

  pub walk_ends : c < length old.cpus → IsLawful old → IsLone old c →
      goes_on (cpu_of (walked_out c old) c).walk ≡ false
  walk_ends low lawful lone =
      (walks_out c Runs steps_on no_more (most_steps old) old (omega arith) (record {
        in_range = low;
        lawful = lawful;
        lone = lone;
        tree = refl;
        left = few_at (level_count_of old.tree) (cpu_of old c).walk;
      })).stands
