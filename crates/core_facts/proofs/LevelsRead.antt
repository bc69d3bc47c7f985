-- how high walks stand, step by step
use Rattle.std.proofs.Common.{◌≡◌, ℕ, zero, suc, ◌<◌, Bool, true, false, length}
use Rattle.std.proofs.Common.{Option, Some, None, refl, sym, ◌∙◌, subst, arith, cond, inl, inr}
use Rattle.std.specs.Prelude.{option_map, ◌==◌, is_none, is_some}
use Rattle.std.proofs.lemmas.Bool.{cases_eq, cases_lt}
use Rattle.std.proofs.lemmas.Option.{none-some, same_Some}
use Rattle.tm_base.specs.declared.names.TheConstants.{NEVER}
use Rattle.event_queue.specs.declared.event.Event.{Event}
use Rattle.event_queue.specs.EventMap.{event_at}
use Rattle.tree_plan.specs.Laws.{CutLaws, PathLaws}
use Rattle.tree_plan.specs.Paths.{group_at_of, level_count_of}
use Rattle.tree_plan.specs.Shape.{Shape, IsPlanned}
use Rattle.walk_rules.specs.declared.walk.Walk.{Walk}
use Rattle.walk_rules.specs.declared.walk.WalkKind.{WalkKind}
use Rattle.walk_rules.specs.declared.walk.WalkKind.TheVariants as kinds
use Rattle.walk_rules.specs.declared.walk.Stage.{Stage}
use Rattle.walk_rules.specs.declared.walk.Stage.TheVariants as stages
use Rattle.walk_rules.specs.Hierarchy.{HasGroup, at_top, group_on, side}
use Rattle.walk_rules.specs.Scene.{Group, Scene}
use Rattle.walk_rules.specs.Stages.{at_stage, child_next, first_next, first_sight, forget}
use Rattle.walk_rules.specs.Stages.{free_group_next, freed_next, higher, joined_by, left_by}
use Rattle.walk_rules.specs.Stages.{mark_next, read_next, scan_next, see_child_next, see_group_next}
use Rattle.walk_rules.specs.Stages.{store_next, stored_event, swap_next, up_next, with_event}
use Rattle.walk_rules.specs.Stages.{with_lock, with_mark}
use Rattle.walk_rules.specs.Standing.{FitsStage}
use Rattle.core_laws.proofs.Walks.Stands.{leaf_or}
use Rattle.core_world.specs.declared.step.Step.{Step}
use Rattle.core_world.specs.declared.step.Step.TheVariants as steps
use Rattle.core_world.specs.Enabled.{Enabled}
use Rattle.core_world.specs.Frames.{QuietSteps, SizesStay, is_quiet}
use Rattle.core_world.specs.Lawful.{IsLawful}
use Rattle.core_world.specs.Steps.{child_here, child_on, finished, here, stepped}
use Rattle.walk_rules.specs.Stages.{begun_where}
use Rattle.core_world.specs.Steps.{swapped, walk_made, walked, with_walk}
use Rattle.core_world.specs.World.{CpuRecord, World, cpu_of, group_of, moved, own}
use Rattle.core_world.proofs.Moves.{cpu_same, moved_laws}
use Rattle.core_facts.specs.Levels.{EachLevelIsLow, EachStageFitsLevels, FitsLevel, LevelsFit}
use Rattle.core_facts.specs.Levels.{LevelsStayFit}
use Rattle.core_facts.proofs.Scenes.{in_scene, stands_where}

-- of the walk of a CPU, if it has one
abbrev OfWalk : Shape → ℕ → Option Walk → Type 0
OfWalk t c m = (k : Walk) → m ≡ Some k → FitsLevel t c k.level k.best

none_fits : (t : Shape) (c : ℕ) → OfWalk t c None
none_fits t c k is = absurd (none-some k is)

some_fits : (t : Shape) (c : ℕ) (j : Walk) → FitsLevel t c j.level j.best → OfWalk t c (Some j)
some_fits t c j fits k is =
    subst (λ (z : Walk). FitsLevel t c z.level z.best) (same_Some _ _ is) fits

to_scene : (t : Shape) (c : ℕ) (m : Option Walk) → OfWalk t c m → OfWalk t c (option_map forget m)
to_scene t c None of = none_fits t c
to_scene t c (Some k) of = some_fits t c (forget k) (of k refl)

from_scene : (t : Shape) (c : ℕ) (m : Option Walk) → OfWalk t c (option_map forget m)
    → OfWalk t c m
from_scene t c None of = none_fits t c
from_scene t c (Some k) of = some_fits t c k (of (forget k) refl)

-- STAGES: a walk stays at its level, or goes one higher on its CPU's path
higher_fits : (t : Shape) (c : ℕ) (k : Walk) (stage : Stage) → HasGroup t c
    → OfWalk t c (Some (higher k stage))
higher_fits t c k stage has =
    some_fits t c (higher k stage) (record {
      alone = λ none. absurd (none has);
      at_leaf = λ _. refl;
    })

module _ (t : Shape) (c : ℕ) (k : Walk) (fits : FitsLevel t c k.level k.best) where
  same : (stage : Stage) → OfWalk t c (Some (at_stage k stage))
  same stage = some_fits t c (at_stage k stage) fits

  up_fits : (top more : Bool) → OfWalk t c (up_next top more k)
  up_fits true more = none_fits t c
  up_fits false more = same (stages.Mark more)

  mark_fits : (more : Bool) → HasGroup t c → OfWalk t c (mark_next more k)
  mark_fits true has = higher_fits t c k stages.Up has
  mark_fits false has = none_fits t c

  see_fits : (on : Bool) → OfWalk t c (Some (see_child_next on k))
  see_fits true = some_fits t c (see_child_next true k) fits
  see_fits false = some_fits t c (see_child_next false k) fits

  scan_fits : (e : Option Event) (n : ℕ) → 0 < k.level → OfWalk t c (Some (scan_next e n k))
  scan_fits e n high =
      some_fits t c (scan_next e n k) (record {
        alone = fits.alone;
        at_leaf = λ leaf. absurd (omega (arith, high, leaf));
      })

  freed_fits : (over : Bool) → HasGroup t c → OfWalk t c (Some (freed_next over k))
  freed_fits true has = same stages.Finish
  freed_fits false has = higher_fits t c k _ has

  free_fits : (level : ℕ) → HasGroup t c → OfWalk t c (Some (free_group_next level k))
  free_fits zero has = freed_fits k.over has
  free_fits (suc level) has = same stages.FreeChild

  handing_fits : (b : Bool) → OfWalk t c (cond b None (Some (at_stage k stages.Handing)))
  handing_fits true = none_fits t c
  handing_fits false = same stages.Handing

  finish_fits : (y : CpuRecord) (kind : WalkKind) → OfWalk t c (finished y k kind).walk
  finish_fits y kinds.Activate = none_fits t c
  finish_fits y kinds.Deactivate = none_fits t c
  finish_fits y kinds.Offline = handing_fits (k.first == NEVER)
  finish_fits y kinds.Reeval = none_fits t c
  finish_fits y (kinds.Remote by) = none_fits t c

begun_fits : (t : Shape) (c : ℕ) (has : Bool) (kind : WalkKind) (stage : Stage) (pin next : ℕ)
    → OfWalk t c (begun_where has kind stage pin next)
begun_fits t c true kind stage pin next =
    some_fits t c _ (record { alone = λ _. refl; at_leaf = λ _. refl })
begun_fits t c false kinds.Activate stage pin next = none_fits t c
begun_fits t c false kinds.Deactivate stage pin next =
    some_fits t c _ (record { alone = λ _. refl; at_leaf = λ _. refl })
begun_fits t c false kinds.Offline stage pin next =
    some_fits t c _ (record { alone = λ _. refl; at_leaf = λ _. refl })
begun_fits t c false kinds.Reeval stage pin next =
    some_fits t c _ (record { alone = λ _. refl; at_leaf = λ _. refl })
begun_fits t c false (kinds.Remote by) stage pin next =
    some_fits t c _ (record { alone = λ _. refl; at_leaf = λ _. refl })

-- WORLDS: one CPU's walk changes, and readings by others
module _ (w : World) (fits : LevelsFit w) where
  moved_fits : (g : ℕ) (x : Group) (c : ℕ) (y : CpuRecord) (q : Bool) → c < length w.cpus
      → OfWalk w.tree c y.walk → LevelsFit (moved w g x c y q)
  moved_fits g x c y q low of d = elim (cases_eq d c) [
    | inl same ↦
        subst (λ n. OfWalk w.tree n (cpu_of (moved w g x c y q) n).walk) (sym same)
        (subst (λ (z : CpuRecord). OfWalk w.tree c z.walk) (sym (cpu_same w g x c y q low)) of)
    | inr apart ↦
        from_scene w.tree d (cpu_of (moved w g x c y q) d).walk
        (subst (OfWalk w.tree d) (sym ((moved_laws w g x c y q).changes.walk d apart))
        (to_scene w.tree d (cpu_of w d).walk (fits d)))
  ]

  own_fits : (c : ℕ) (y : CpuRecord) → c < length w.cpus → OfWalk w.tree c y.walk
      → LevelsFit (own w c y)
  own_fits c y low of = moved_fits 0 (group_of w 0) c y false low of

  quiet_fits : QuietSteps → SizesStay → (step : Step) → Enabled w step → is_quiet step ≡ true
      → LevelsFit (stepped w step)
  quiet_fits quiet sizes step e is d =
      let new = (cpu_of (stepped w step) d).walk in
      subst (λ t. OfWalk t d new) (sym (sizes w step).tree)
      (from_scene w.tree d new
      (subst (λ (s : Scene). OfWalk w.tree d (s.walk d)) (sym (quiet w step e is))
      (to_scene w.tree d (cpu_of w d).walk (fits d))))

  module _ (c : ℕ) (k : Walk) (low : c < length w.cpus) (l : IsLawful w)
      (is : (cpu_of w c).walk ≡ Some k) where
    here_fits : FitsLevel w.tree c k.level k.best
    here_fits = fits c k is

    has : (k.stage ≡ stages.Finish → ⊥) → HasGroup w.tree c
    has other = stands_where w l c k is other

    -- a step that changes the walk alone, and one that changes a group too
    on : (m : Option Walk) → OfWalk w.tree c m → LevelsFit (own w c (with_walk (cpu_of w c) m))
    on m of = own_fits c (with_walk (cpu_of w c) m) low of

    at_group : (g : ℕ) (x : Group) (m : Option Walk) (q : Bool) → OfWalk w.tree c m
        → LevelsFit (moved w g x c (with_walk (cpu_of w c) m) q)
    at_group g x m q of = moved_fits g x c (with_walk (cpu_of w c) m) q low of

    abbrev group : Group
    group = group_of w (here w c k)

    swap_fits : (fresh : Bool) → LevelsFit (swapped w c k fresh)
    swap_fits true =
        at_group (here w c k) (left_by k.child_on group (side w.tree c k.level))
        (Some (swap_next true k)) true (some_fits w.tree c (swap_next true k) here_fits)
    swap_fits false =
        on (Some (swap_next false k)) (some_fits w.tree c (swap_next false k) here_fits)

    scanning : (n : ℕ) → k.stage ≡ stages.Scan n → 0 < k.level
    scanning n at =
        (subst (FitsStage w.tree c k.kind k.level) at
        (l.placed.in_tree c (forget k) (in_scene w c k is) (has (λ f. cc))).fits).1

    stage_fits : (stage : Stage) → k.stage ≡ stage → LevelsFit (walked w c k stage)
    stage_fits stages.Own at =
        at_group (group_on w.tree c 0)
        (with_mark (group_of w (group_on w.tree c 0)) (side w.tree c 0))
        (Some (at_stage k stages.Up)) false (same w.tree c k here_fits stages.Up)
    stage_fits stages.Up at =
        let top = at_top w.tree c k.level in
        let more = is_none group.migrator in
        at_group (here w c k) (joined_by group (side w.tree c k.level)) (up_next top more k) true
        (up_fits w.tree c k here_fits top more)
    stage_fits (stages.Mark more) at =
        let above = group_on w.tree c (suc k.level) in
        at_group above (with_mark (group_of w above) (side w.tree c (suc k.level)))
        (mark_next more k) false (mark_fits w.tree c k here_fits more (has (λ f. cc)))
    stage_fits stages.Read at =
        on (Some (read_next k)) (some_fits w.tree c (read_next k) here_fits)
    stage_fits stages.Child at =
        let next = child_next (child_on w c k.level) k in
        on (Some next) (some_fits w.tree c next here_fits)
    stage_fits stages.Swap at = swap_fits k.fresh
    stage_fits stages.LockChild at =
        let below = child_here w c k in
        at_group below (with_lock (group_of w below) (Some c)) (Some (at_stage k stages.LockGroup))
        false (same w.tree c k here_fits stages.LockGroup)
    stage_fits stages.LockGroup at =
        let sight = first_sight k.level in
        at_group (here w c k) (with_lock group (Some c)) (Some (at_stage k sight)) false
        (same w.tree c k here_fits sight)
    stage_fits stages.SeeChild at =
        let active = child_on w c k.level in
        on (Some (see_child_next active k)) (see_fits w.tree c k here_fits active)
    stage_fits stages.SeeGroup at =
        let next = see_group_next (is_some group.migrator) (at_top w.tree c k.level) k in
        on (Some next) (some_fits w.tree c next here_fits)
    stage_fits (stages.Scan n) at =
        let e = event_at (group_of w (child_here w c k)).events n in
        on (Some (scan_next e n k)) (scan_fits w.tree c k here_fits e n (scanning n at))
    stage_fits stages.Store at =
        let next = store_next (at_top w.tree c k.level) k in
        at_group (here w c k)
        (with_event group (side w.tree c k.level) (stored_event k.level c k)) (Some next) false
        (some_fits w.tree c next here_fits)
    stage_fits (stages.First n) at =
        let next = first_next (event_at group.events n) n k in
        on (Some next) (some_fits w.tree c next here_fits)
    stage_fits stages.FreeGroup at =
        at_group (here w c k) (with_lock group None) (Some (free_group_next k.level k)) false
        (free_fits w.tree c k here_fits k.level (has (λ f. cc)))
    stage_fits stages.FreeChild at =
        let below = child_here w c k in
        at_group below (with_lock (group_of w below) None) (Some (freed_next k.over k)) false
        (freed_fits w.tree c k here_fits k.over (has (λ f. cc)))
    stage_fits stages.Finish at =
        own_fits c (finished (cpu_of w c) k k.kind) low
        (finish_fits w.tree c k here_fits (cpu_of w c) k.kind)
    stage_fits stages.Handing at = fits

  begins_fit : (c : ℕ) (y : CpuRecord) (has : Bool) (kind : WalkKind) (stage : Stage)
      (pin next : ℕ) → c < length w.cpus → y.walk ≡ begun_where has kind stage pin next
      → LevelsFit (own w c y)
  begins_fit c y has kind stage pin next low begun =
      own_fits c y low
      (subst (OfWalk w.tree c) (sym begun) (begun_fits w.tree c has kind stage pin next))

pub each_stage_fits : EachStageFitsLevels
each_stage_fits w c k stage l may fits =
    stage_fits w fits c k may.in_range l may.walk stage may.at

pub levels_stay : QuietSteps → SizesStay → LevelsStayFit
levels_stay quiet sizes w (steps.Clock now) l e fits =
    quiet_fits w fits quiet sizes (steps.Clock now) e refl
levels_stay quiet sizes w (steps.Enter cpu) l e fits =
    quiet_fits w fits quiet sizes (steps.Enter cpu) e refl
levels_stay quiet sizes w (steps.Leave cpu) l e fits =
    quiet_fits w fits quiet sizes (steps.Leave cpu) e refl
levels_stay quiet sizes w (steps.Arm cpu timer class expires job arg line) l e fits =
    quiet_fits w fits quiet sizes (steps.Arm cpu timer class expires job arg line) e refl
levels_stay quiet sizes w (steps.Cancel cpu timer by line) l e fits =
    quiet_fits w fits quiet sizes (steps.Cancel cpu timer by line) e refl
levels_stay quiet sizes w (steps.Hand cpu timer runner) l e fits =
    quiet_fits w fits quiet sizes (steps.Hand cpu timer runner) e refl
levels_stay quiet sizes w (steps.Ticked cpu class runner) l e fits =
    quiet_fits w fits quiet sizes (steps.Ticked cpu class runner) e refl
levels_stay quiet sizes w (steps.Move from to timer) l e fits =
    quiet_fits w fits quiet sizes (steps.Move from to timer) e refl
levels_stay quiet sizes w (steps.Idle cpu) l e fits =
    begins_fit w fits cpu.0 _ _ _ _ _ _ e.is_free.in_range refl
levels_stay quiet sizes w (steps.Wake cpu) l e fits =
    begins_fit w fits cpu.0 _ _ _ _ _ _ e.is_free.in_range refl
levels_stay quiet sizes w (steps.Offline cpu) l e fits =
    begins_fit w fits cpu.0 _ _ _ _ _ _ e.is_free.in_range refl
levels_stay quiet sizes w (steps.Online cpu) l e fits =
    begins_fit w fits cpu.0 _ _ _ _ _ _ e.is_free.in_range refl
levels_stay quiet sizes w (steps.Reeval cpu) l e fits =
    begins_fit w fits cpu.0 _ _ _ _ _ _ e.is_free.in_range refl
levels_stay quiet sizes w (steps.Take cpu by) l e fits =
    quiet_fits w fits quiet sizes (steps.Take cpu by) e refl
levels_stay quiet sizes w (steps.Carry cpu) l e fits =
    begins_fit w fits cpu.0 _ _ _ _ _ _ e.is_free.in_range refl
levels_stay quiet sizes w (steps.Release cpu) l e fits =
    quiet_fits w fits quiet sizes (steps.Release cpu) e refl
levels_stay quiet sizes w (steps.Walk cpu) l e fits =
    subst (λ m. LevelsFit (walk_made w cpu.0 m)) (sym e.walk)
    (stage_fits w fits cpu.0 e.made e.in_range l e.walk e.made.stage refl)
levels_stay quiet sizes w (steps.HandOn cpu to) l e fits =
    own_fits w fits cpu.0 (with_walk (cpu_of w cpu.0) None) e.in_range
    (none_fits w.tree cpu.0)

-- HEIGHT
low_in : (t : Shape) → CutLaws t → PathLaws t → (c l g : ℕ) → group_at_of t c l ≡ Some g → l < 3
low_in t cuts paths c l g at = elim (cases_lt l (level_count_of t)) [
  | inl low ↦ omega (arith, low, cuts.at_most_3_levels)
  | inr past ↦ absurd (none-some g (sym (paths.beyond c l past) ∙ at))
]

pub each_level_is_low : ((t : Shape) → IsPlanned t → CutLaws t)
    → ((t : Shape) → IsPlanned t → PathLaws t) → EachLevelIsLow
each_level_is_low cuts paths w planned l fits c k is = elim (leaf_or (group_at_of w.tree c 0)) [
  | inl leaf ↦
      let there = (l.placed.in_tree c (forget k) (in_scene w c k is) leaf).there in
      low_in w.tree (cuts w.tree planned) (paths w.tree planned) c k.level there.0 there.1
  | inr none ↦
      let zero = (fits c k is).alone (λ leaf. none-some leaf.0 (sym none ∙ leaf.1)) in
      omega (arith, zero)
]
