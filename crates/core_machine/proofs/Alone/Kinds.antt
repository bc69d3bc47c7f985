-- for crates above: what a walk that is made alone, to its end, makes of its CPU by its kind
use Rattle.std.proofs.Common.{◌≡◌, ℕ, zero, suc, ◌<◌, cond, Bool, true, false, true≢false}
use Rattle.std.proofs.Common.{Option, Some, None, length, refl, sym, ◌∙◌, subst, arith}
use Rattle.std.proofs.Common.{inl, inr}
use Rattle.std.specs.Prelude.{◌+◌, ◌==◌, is_none, is_some}
use Rattle.std.proofs.lemmas.Bool.{cases_Bool}
use Rattle.tm_base.specs.declared.names.TheConstants.{NEVER}
use Rattle.event_queue.specs.EventMap.{event_at}
use Rattle.walk_rules.specs.declared.walk.Walk.{Walk}
use Rattle.walk_rules.specs.declared.walk.WalkKind.{WalkKind}
use Rattle.walk_rules.specs.declared.walk.WalkKind.TheVariants as kinds
use Rattle.walk_rules.specs.declared.walk.Stage.{Stage}
use Rattle.walk_rules.specs.declared.walk.Stage.TheVariants as stages
use Rattle.walk_rules.specs.Scene.{Group, no_group}
use Rattle.walk_rules.specs.Hierarchy.{at_top}
use Rattle.walk_rules.specs.Stages.{after_sight, at_stage, child_next, first_lock, first_next}
use Rattle.walk_rules.specs.Stages.{first_sight, first_stage, free_group_next, freed_next, higher}
use Rattle.walk_rules.specs.Stages.{mark_next, read_next, scan_next, see_child_next, see_group_next}
use Rattle.walk_rules.specs.Stages.{started, store_next, swap_next, up_next}
use Rattle.core_steps.specs.core_laws.Laws.{StepsStayLawful}
use Rattle.core_world.specs.declared.step.Step.TheVariants as steps
use Rattle.core_world.specs.Lawful.{IsLawful}
use Rattle.core_world.specs.Steps.{child_here, child_on, finished, here, swapped}
use Rattle.walk_rules.specs.Stages.{begun_where}
use Rattle.core_world.specs.Steps.{walk_made, walked, with_walk}
use Rattle.core_world.specs.World.{CpuRecord, World, cpu_of, group_of, moved, own}
use Rattle.core_world.proofs.Moves.{cpu_same, moved_laws}
use Rattle.step_play.specs.Rules.Alone.{goes_on, is_handing, most_steps, walk_steps, walked_out}
use Rattle.step_play.specs.Rules.Lone.{IsLone}
use Rattle.step_play.proofs.Activation.Calm.{handing}
use Rattle.step_play.proofs.Activation.Walking.{goes, onwards, stays}
use Rattle.step_play.proofs.Lone.{lone_made, lone_moved, may_walk, on_unless}
use Rattle.core_machine.proofs.Alone.Ends.{fits}
use Rattle.core_machine.proofs.Alone.Frames.{Framed, begun_framed, step_framed}

-- BY ITS KIND: a re-evaluation ends its CPU's interrupt, and a remote walk takes its mark away
abbrev pub inside_after : WalkKind → Bool → Bool
inside_after kinds.Activate b = b
inside_after kinds.Deactivate b = b
inside_after kinds.Offline b = b
inside_after kinds.Reeval b = false
inside_after (kinds.Remote by) b = b

abbrev pub mark_after : WalkKind → Option ℕ → Option ℕ
mark_after kinds.Activate m = m
mark_after kinds.Deactivate m = m
mark_after kinds.Offline m = m
mark_after kinds.Reeval m = m
mark_after (kinds.Remote by) m = None

-- CPU z was y as its walk began: the walk is over, or goes on
pub record Over (kind : WalkKind) (y z : CpuRecord) : Type 0 where
  pub inside : z.inside ≡ inside_after kind y.inside
  pub mark : z.mark ≡ mark_after kind y.mark

pub record Under (kind : WalkKind) (y z : CpuRecord) (k : Walk) : Type 0 where
  pub made : k.kind ≡ kind
  pub inside : z.inside ≡ y.inside
  pub mark : z.mark ≡ y.mark

-- only one that went offline stays, at Handing, when it is over
abbrev pub StandsBy : WalkKind → (y z : CpuRecord) → Walk → (over : Bool) → Type 0
StandsBy kind y z k true = (kind ≡ kinds.Offline) × Over kind y z
StandsBy kind y z k false = Under kind y z k

abbrev pub Stands : WalkKind → (y z : CpuRecord) → Option Walk → Type 0
Stands kind y z None = Over kind y z
Stands kind y z (Some k) = StandsBy kind y z k (is_handing k.stage)

-- so CPU c stands in a world
abbrev StandsIn : WalkKind → (y : CpuRecord) (c : ℕ) → World → Type 0
StandsIn kind y c w = Stands kind y (cpu_of w c) (cpu_of w c).walk

-- a walk that begins
pub begins_so : (b : Bool) (kind : WalkKind) (stage : Stage) (pin next : ℕ) (y : CpuRecord) →
    is_handing stage ≡ false → Stands kind y y (begun_where b kind stage pin next)
begins_so true kind stage pin next y going =
    subst (StandsBy kind y y (started kind stage pin next NEVER)) (sym going)
    (record { made = refl; inside = refl; mark = refl })
begins_so false kinds.Activate stage pin next y going = record { inside = refl; mark = refl }
begins_so false kinds.Deactivate stage pin next y going =
    record { made = refl; inside = refl; mark = refl }
begins_so false kinds.Offline stage pin next y going =
    record { made = refl; inside = refl; mark = refl }
begins_so false kinds.Reeval stage pin next y going =
    record { made = refl; inside = refl; mark = refl }
begins_so false (kinds.Remote by) stage pin next y going =
    record { made = refl; inside = refl; mark = refl }

-- where a walk goes, it doesn't wait
lock_goes : (n : ℕ) → is_handing (first_lock n) ≡ false
lock_goes zero = refl
lock_goes (suc n) = refl

sight_goes : (n : ℕ) → is_handing (first_sight n) ≡ false
sight_goes zero = refl
sight_goes (suc n) = refl

after_goes : (n : ℕ) → is_handing (after_sight n) ≡ false
after_goes zero = refl
after_goes (suc n) = refl

stage_goes : (kind : WalkKind) → is_handing (first_stage kind) ≡ false
stage_goes kinds.Activate = refl
stage_goes kinds.Deactivate = refl
stage_goes kinds.Offline = refl
stage_goes kinds.Reeval = refl
stage_goes (kinds.Remote by) = refl

either_goes : (b : Bool) (s t : Stage) → is_handing s ≡ false → is_handing t ≡ false →
    is_handing (cond b s t) ≡ false
either_goes true s t here there = here
either_goes false s t here there = there

-- the record that a step of the walk leaves
module _ (kind : WalkKind) (y z : CpuRecord) (k : Walk) (u : Under kind y z k) where
  on : (j : Walk) → j.kind ≡ k.kind → is_handing j.stage ≡ false →
      Stands kind y (with_walk z (Some j)) (Some j)
  on j same going =
      subst (StandsBy kind y (with_walk z (Some j)) j) (sym going)
      (record { made = same ∙ u.made; inside = u.inside; mark = u.mark })

  -- an activation that ends
  off : k.kind ≡ kinds.Activate → Stands kind y (with_walk z None) None
  off act =
      subst (λ n. Over n y (with_walk z None)) (sym act ∙ u.made)
      (record { inside = u.inside; mark = u.mark })

  up_on : (top more : Bool) → k.kind ≡ kinds.Activate →
      Stands kind y (with_walk z (up_next top more k)) (up_next top more k)
  up_on true more act = off act
  up_on false more act = on (at_stage k (stages.Mark more)) refl refl

  mark_on : (more : Bool) → k.kind ≡ kinds.Activate →
      Stands kind y (with_walk z (mark_next more k)) (mark_next more k)
  mark_on true act = on (higher k stages.Up) refl refl
  mark_on false act = off act

  see_on : (b : Bool) → Stands kind y (with_walk z (Some (see_child_next b k)))
      (Some (see_child_next b k))
  see_on true = on (see_child_next true k) refl refl
  see_on false = on (see_child_next false k) refl refl

  freed_on : (over : Bool) → Stands kind y (with_walk z (Some (freed_next over k)))
      (Some (freed_next over k))
  freed_on true = on (freed_next true k) refl refl
  freed_on false = on (freed_next false k) refl (stage_goes k.kind)

  free_on : (n : ℕ) → Stands kind y (with_walk z (Some (free_group_next n k)))
      (Some (free_group_next n k))
  free_on zero = freed_on k.over
  free_on (suc n) = on (free_group_next (suc n) k) refl refl

  -- the end, by the kind
  left_by : (b : Bool) → let m = cond b None (Some (at_stage k stages.Handing)) in
      Stands kinds.Offline y (with_walk z m) m
  left_by true = record { inside = u.inside; mark = u.mark }
  left_by false = (refl, record { inside = u.inside; mark = u.mark })

  ends_as : (n : WalkKind) → Stands n y (finished z k n) (finished z k n).walk
  ends_as kinds.Activate = record { inside = u.inside; mark = u.mark }
  ends_as kinds.Deactivate = record { inside = u.inside; mark = u.mark }
  ends_as kinds.Offline = left_by (k.first == NEVER)
  ends_as kinds.Reeval = record { inside = refl; mark = u.mark }
  ends_as (kinds.Remote by) = record { inside = u.inside; mark = refl }

  ended : Stands kind y (finished z k k.kind) (finished z k k.kind).walk
  ended = subst (λ n. Stands n y (finished z k k.kind) (finished z k k.kind).walk) u.made
      (ends_as k.kind)

module _ (c : ℕ) (kind : WalkKind) (y : CpuRecord) where
  -- A STEP of the walk
  module _ (w : World) (low : c < length w.cpus) (lawful : IsLawful w) where
    abbrev now : CpuRecord
    now = cpu_of w c

    written : (g : ℕ) (x : Group) (z : CpuRecord) (r : Bool) → Stands kind y z z.walk →
        StandsIn kind y c (moved w g x c z r)
    written g x z r stands =
        subst (λ (v : CpuRecord). Stands kind y v v.walk) (sym (cpu_same w g x c z r low)) stands

    module _ (k : Walk) (is : now.walk ≡ Some k) (u : Under kind y now k) where
      to : (g : ℕ) (x : Group) (r : Bool) (m : Option Walk) → Stands kind y (with_walk now m) m →
          StandsIn kind y c (moved w g x c (with_walk now m) r)
      to g x r m stands = written g x (with_walk now m) r stands

      -- with another walk, which goes on
      on_as : (g : ℕ) (x : Group) (r : Bool) (j : Walk) → j.kind ≡ k.kind →
          is_handing j.stage ≡ false →
          StandsIn kind y c (moved w g x c (with_walk now (Some j)) r)
      on_as g x r j same going = to g x r (Some j) (on kind y now k u j same going)

      by_swap : (b : Bool) → StandsIn kind y c (swapped w c k b)
      by_swap true = on_as (here w c k) no_group true (swap_next true k) refl (lock_goes k.level)
      by_swap false = on_as 0 no_group false (swap_next false k) refl refl

      by_stage : (st : Stage) → k.stage ≡ st → is_handing st ≡ false →
          StandsIn kind y c (walked w c k st)
      by_stage stages.Own at go = on_as 0 no_group false (at_stage k stages.Up) refl refl
      by_stage stages.Up at go =
          to (here w c k) no_group true _ (up_on kind y now k u (at_top w.tree c k.level)
          (is_none (group_of w (here w c k)).migrator)
          (fits w c k lawful is stages.Up at (λ e. cc)))
      by_stage (stages.Mark more) at go =
          to 0 no_group false _ (mark_on kind y now k u more
          (fits w c k lawful is (stages.Mark more) at (λ e. cc)).0)
      by_stage stages.Read at go = on_as 0 no_group false (read_next k) refl refl
      by_stage stages.Child at go =
          on_as 0 no_group false (child_next (child_on w c k.level) k) refl refl
      by_stage stages.Swap at go = by_swap k.fresh
      by_stage stages.LockChild at go =
          on_as 0 no_group false (at_stage k stages.LockGroup) refl refl
      by_stage stages.LockGroup at go =
          on_as 0 no_group false (at_stage k (first_sight k.level)) refl (sight_goes k.level)
      by_stage stages.SeeChild at go =
          to 0 no_group false _ (see_on kind y now k u (child_on w c k.level))
      by_stage stages.SeeGroup at go =
          on_as 0 no_group false
          (see_group_next (is_some (group_of w (here w c k)).migrator) (at_top w.tree c k.level) k)
          refl (after_goes k.level)
      by_stage (stages.Scan j) at go =
          on_as 0 no_group false (scan_next (event_at (group_of w (child_here w c k)).events j) j k)
          refl (either_goes (j == 7) stages.Store (stages.Scan (j + 1)) refl refl)
      by_stage stages.Store at go =
          on_as 0 no_group false (store_next (at_top w.tree c k.level) k) refl
          (either_goes _ (stages.First 0) stages.FreeGroup refl refl)
      by_stage (stages.First j) at go =
          on_as 0 no_group false (first_next (event_at (group_of w (here w c k)).events j) j k) refl
          (either_goes (j == 7) stages.FreeGroup (stages.First (j + 1)) refl refl)
      by_stage stages.FreeGroup at go = to 0 no_group false _ (free_on kind y now k u k.level)
      by_stage stages.FreeChild at go = to 0 no_group false _ (freed_on kind y now k u k.over)
      by_stage stages.Finish at go =
          written 0 no_group (finished now k k.kind) false (ended kind y now k u)
      by_stage stages.Handing at go = absurd (true≢false go)

    by_made : (m : Option Walk) → now.walk ≡ m → goes_on m ≡ true → Stands kind y now m →
        StandsIn kind y c (walk_made w c m)
    by_made None is go stands = cc
    by_made (Some k) is go stands =
        let going = on_unless (is_handing k.stage) go in
        by_stage k is (subst (StandsBy kind y now k) going stands) k.stage refl going

    step_stands : goes_on now.walk ≡ true → StandsIn kind y c w → StandsIn kind y c (onwards c w)
    step_stands go stands = by_made now.walk refl go stands

  -- THE WALK
  record Along (w : World) : Type 0 where
    pub stands : StandsIn kind y c w
    pub in_range : c < length w.cpus
    pub lone : IsLone w c
    pub lawful : IsLawful w

  module _ (laws : StepsStayLawful) where
    onward : (w : World) → Along w → goes_on (cpu_of w c).walk ≡ true → Along (onwards c w)
    onward w a go =
        let low = a.in_range in
        let count = (step_framed w c low a.lone).cpus in
        record {
          stands = step_stands w low a.lawful go a.stands;
          in_range = omega (arith, low, count);
          lone = lone_made w c a.lone (cpu_of w c).walk;
          lawful = laws w (steps.Walk (record { 0 = c })) a.lawful
              (may_walk w c a.in_range a.lawful a.lone go);
        }

    all_along : (n : ℕ) (w : World) → Along w → Along (walk_steps n c w)
    unfolding walk_steps
    all_along zero w a = a
    all_along (suc n) w a = elim (cases_Bool (goes_on (cpu_of w c).walk)) [
      | inl go ↦ subst Along (sym (goes c n w go)) (all_along n (onwards c w) (onward w a go))
      | inr stop ↦ subst Along (sym (stays c (suc n) w stop)) a
    ]

-- what is left of a walk of this kind that is over
abbrev pub IsLeft : WalkKind → Option Walk → Type 0
IsLeft kind None = Unit {0}
IsLeft kind (Some k) = (kind ≡ kinds.Offline) × (k.stage ≡ stages.Handing)

-- A WALK OF THIS KIND, made from its start to its end, has led from the old world with record y for
-- CPU c to this one
pub record IsWalked (old : World) (c : ℕ) (kind : WalkKind) (y : CpuRecord) (v : World) : Type 0
  where
    pub framed : Framed old c y v
    pub lawful : IsLawful v
    pub inside : (cpu_of v c).inside ≡ inside_after kind y.inside
    pub mark : (cpu_of v c).mark ≡ mark_after kind y.mark
    pub walk : IsLeft kind (cpu_of v c).walk

over_by : (kind : WalkKind) (y z : CpuRecord) (m : Option Walk) → goes_on m ≡ false →
    Stands kind y z m → Over kind y z × IsLeft kind m
over_by kind y z None stop over = (over, tt)
over_by kind y z (Some k) stop stands =
    let at = handing k stop in
    let is = subst (λ (st : Stage). StandsBy kind y z k (is_handing st)) at stands in
    (is.1, (is.0, at))

module _ (laws : StepsStayLawful) (old : World) (c : ℕ) (low : c < length old.cpus)
    (lone : IsLone old c) (kind : WalkKind) (y : CpuRecord) (began : IsLawful (own old c y))
    (stands : Stands kind y y y.walk) where
  abbrev begun : World
  begun = own old c y

  first : Along c kind y begun
  first =
      let count = (moved_laws old 0 (group_of old 0) c y false).cpus in
      record {
        stands = subst (λ (v : CpuRecord). Stands kind y v v.walk)
            (sym (cpu_same old 0 (group_of old 0) c y false low)) stands;
        in_range = omega (arith, low, count);
        lone = lone_moved old c lone 0 (group_of old 0) y false;
        lawful = began;
      }

  pub is_walked : goes_on (cpu_of (walked_out c begun) c).walk ≡ false →
      IsWalked old c kind y (walked_out c begun)
  is_walked stop =
      let v = walked_out c begun in
      let a = all_along c kind y laws (most_steps begun) begun first in
      let left = over_by kind y (cpu_of v c) (cpu_of v c).walk stop a.stands in
      record {
        framed = begun_framed old c y low lone;
        lawful = a.lawful;
        inside = left.0.inside;
        mark = left.0.mark;
        walk = left.1;
      }
