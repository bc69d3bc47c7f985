-- for crates above: every step keeps the bookkeeping of walks
use Rattle.std.proofs.Common.{◌≡◌, ◌≢◌, ℕ, ◌<◌, Bool, true, false, true≢false, cond, length, Option, Some, None, refl, sym, ap, ◌∙◌, subst, inl, inr, eq-eqb}
use Rattle.std.specs.Prelude.{◌==◌, ◌&&◌, not, is_none, is_some, option_map}
use Rattle.std.proofs.lemmas.Bool.{cases_eq}
use Rattle.std.proofs.lemmas.Option.{none-some, same_Some}
use Rattle.tm_base.specs.declared.names.TheConstants.{NEVER}
use Rattle.event_queue.specs.EventMap.{event_at}
use Rattle.tree_plan.specs.Shape.{Shape}
use Rattle.tree_plan.specs.Paths.{group_at_of}
use Rattle.walk_rules.specs.declared.walk.Walk.{Walk}
use Rattle.walk_rules.specs.declared.walk.WalkKind.{WalkKind}
use Rattle.walk_rules.specs.declared.walk.WalkKind.TheVariants as kinds
use Rattle.walk_rules.specs.declared.walk.Stage.{Stage}
use Rattle.walk_rules.specs.declared.walk.Stage.TheVariants as stages
use Rattle.walk_rules.specs.Hierarchy.{at_top}
use Rattle.walk_rules.specs.Scene.{Group, Scene}
use Rattle.walk_rules.specs.Stages.{at_stage, forget}
use Rattle.walk_rules.specs.Standing.{FitsStage, FlagsAt, IsWalker}
use Rattle.core_world.specs.declared.step.Step.{Step}
use Rattle.core_world.specs.declared.step.Step.TheVariants as steps
use Rattle.core_world.specs.Enabled.{Enabled, MayGoOn}
use Rattle.core_world.specs.Frames.{is_quiet}
use Rattle.core_world.specs.Steps.{child_here, child_on, finished, here, stepped, swapped, walk_made, walked}
use Rattle.walk_rules.specs.Stages.{begun_where}
use Rattle.core_world.specs.World.{CpuRecord, World, cpu_of, group_of, moved, own, scene_of}
use Rattle.core_world.proofs.Moves.{moved_laws}
use Rattle.core_world.proofs.Quiet.{quiet_steps}
use Rattle.core_laws.specs.Walks.Fit.{IsFit, WalksFit, WalksStayFit}
use Rattle.core_laws.proofs.Walks.Fits.{child_fits, first_fit, free_child_fits, free_group_fits, lock_child_fits, lock_group_fits, mark_fits, own_fits, read_fits, scan_fit, see_child_fits, see_group_fits, store_fit, swap_fits, up_fits}

fit_of : (t : Shape) (s : Scene) → WalksFit t s → (c : ℕ) (k : Walk) → s.walk c ≡ Some k → IsFit t c (s.online c) (s.idle c) k
fit_of t s f c k is = record {
  in_tree = λ g. f.placed.in_tree c k is g;
  alone = λ none. f.placed.alone c k is none;
  flags = λ g. f.flags c k is g;
  walker = f.walkers c k is;
}

all_fit : (t : Shape) (s : Scene) → ((c : ℕ) (k : Walk) → s.walk c ≡ Some k → IsFit t c (s.online c) (s.idle c) k) → WalksFit t s
all_fit t s f = record {
  placed = record { in_tree = λ c k is g. (f c k is).in_tree g; alone = λ c k is none. (f c k is).alone none };
  flags = λ c k is g. (f c k is).flags g;
  walkers = λ c k is. (f c k is).walker;
}

forgot : (m : Option Walk) (k : Walk) → option_map forget m ≡ Some k → (j : Walk) × (m ≡ Some j) × (forget j ≡ k)
forgot None k e = absurd (none-some k e)
forgot (Some j) k e = (j, refl, same_Some _ _ e)

-- a step of the general form keeps it where the CPU's new walk fits
module _ (w : World) (g : ℕ) (x : Group) (c : ℕ) (y : CpuRecord) (r : Bool) (hc : c < length w.cpus) (f : WalksFit w.tree (scene_of w))
    (new : (k : Walk) → y.walk ≡ Some k → IsFit w.tree c y.online y.idle (forget k)) where
  after : World
  after = moved w g x c y r

  at_c : (k : Walk) → (scene_of after).walk c ≡ Some k → IsFit w.tree c ((scene_of after).online c) ((scene_of after).idle c) k
  unfolding after
  at_c k is =
      let same = (moved_laws w g x c y r).cpu hc in
      let j = forgot y.walk k (sym (ap (λ (z : CpuRecord). option_map forget z.walk) same) ∙ is) in
      subst (λ (z : CpuRecord). IsFit w.tree c z.online z.idle k) (sym same)
      (subst (λ z. IsFit w.tree c y.online y.idle z) j.2 (new j.0 j.1))

  at_else : (d : ℕ) (k : Walk) → d ≢ c → (scene_of after).walk d ≡ Some k → IsFit w.tree d ((scene_of after).online d) ((scene_of after).idle d) k
  unfolding after
  at_else d k ne is =
      let ch = (moved_laws w g x c y r).changes in
      subst (λ b. IsFit w.tree d b ((scene_of (moved w g x c y r)).idle d) k) (sym (ch.online d ne))
      (subst (λ b. IsFit w.tree d ((scene_of w).online d) b k) (sym (ch.idle d ne)) (fit_of w.tree (scene_of w) f d k (sym (ch.walk d ne) ∙ is)))

  pub kept : WalksFit w.tree (scene_of (moved w g x c y r))
  unfolding after
  kept = all_fit w.tree (scene_of (moved w g x c y r)) (λ d k is. elim (cases_eq d c) [
    | inl same ↦ subst (λ n. IsFit w.tree n ((scene_of after).online n) ((scene_of after).idle n) k) (sym same)
        (at_c k (subst (λ n. (scene_of after).walk n ≡ Some k) same is))
    | inr ne ↦ at_else d k ne is
  ])

-- a walk that begins fits
begun_fits : (t : Shape) (c : ℕ) (online idle : Bool) (kind : WalkKind) (stage : Stage) (pin next : ℕ) (m : Option ℕ) → m ≡ group_at_of t c 0
    → FitsStage t c kind 0 stage → FlagsAt (at_top t c 0) false false stage → IsWalker kind online idle → (kind ≡ kinds.Offline → next ≡ NEVER)
    → (k : Walk) → begun_where (is_some m) kind stage pin next ≡ Some k → IsFit t c online idle (forget k)
begun_fits t c online idle kind stage pin next (Some g) at fits flags walker never k is =
    subst (λ z. IsFit t c online idle (forget z)) (same_Some _ _ is) (record {
      in_tree = λ _. record { there = (g, sym at); fits = fits };
      alone = λ none. absurd (none (g, sym at));
      flags = λ _. flags;
      walker = walker;
    })
begun_fits t c online idle kinds.Activate stage pin next None at fits flags walker never k is = absurd (none-some k is)
begun_fits t c online idle kinds.Deactivate stage pin next None at fits flags walker never k is =
    subst (λ z. IsFit t c online idle (forget z)) (same_Some _ _ is) (record {
      in_tree = λ g. absurd (none-some g.0 (at ∙ g.1));
      alone = λ none. record { finishing = refl; tells = λ z. cc; own = refl; no_best = refl; offline = λ z. cc };
      flags = λ g. absurd (none-some g.0 (at ∙ g.1));
      walker = walker;
    })
begun_fits t c online idle kinds.Offline stage pin next None at fits flags walker never k is =
    subst (λ z. IsFit t c online idle (forget z)) (same_Some _ _ is) (record {
      in_tree = λ g. absurd (none-some g.0 (at ∙ g.1));
      alone = λ none. record { finishing = refl; tells = λ z. cc; own = refl; no_best = refl; offline = λ z. never refl };
      flags = λ g. absurd (none-some g.0 (at ∙ g.1));
      walker = walker;
    })
begun_fits t c online idle kinds.Reeval stage pin next None at fits flags walker never k is =
    subst (λ z. IsFit t c online idle (forget z)) (same_Some _ _ is) (record {
      in_tree = λ g. absurd (none-some g.0 (at ∙ g.1));
      alone = λ none. record { finishing = refl; tells = λ z. cc; own = refl; no_best = refl; offline = λ z. cc };
      flags = λ g. absurd (none-some g.0 (at ∙ g.1));
      walker = walker;
    })
begun_fits t c online idle (kinds.Remote by) stage pin next None at fits flags walker never k is =
    subst (λ z. IsFit t c online idle (forget z)) (same_Some _ _ is) (record {
      in_tree = λ g. absurd (none-some g.0 (at ∙ g.1));
      alone = λ none. record { finishing = refl; tells = λ z. cc; own = refl; no_best = refl; offline = λ z. cc };
      flags = λ g. absurd (none-some g.0 (at ∙ g.1));
      walker = walker;
    })

module _ (w : World) (c : ℕ) (k : Walk) (hc : c < length w.cpus) (f : WalksFit w.tree (scene_of w)) (is : (cpu_of w c).walk ≡ Some k) where
  fits : IsFit w.tree c (cpu_of w c).online (cpu_of w c).idle (forget k)
  fits = fit_of w.tree (scene_of w) f c (forget k) (ap (option_map forget) is)

  some_fit : (j : Walk) → IsFit w.tree c (cpu_of w c).online (cpu_of w c).idle (forget j) → (i : Walk) → ◌≡◌ {A = Option Walk} (Some j) (Some i)
      → IsFit w.tree c (cpu_of w c).online (cpu_of w c).idle (forget i)
  some_fit j h i e = subst (λ z. IsFit w.tree c (cpu_of w c).online (cpu_of w c).idle (forget z)) (same_Some _ _ e) h

  swap_kept : (fresh : Bool) → k.stage ≡ stages.Swap → WalksFit w.tree (scene_of (swapped w c k fresh))
  swap_kept true e = kept w (here w c k) _ c _ true hc f (some_fit _ (swap_fits w.tree c _ _ k fits true e))
  swap_kept false e = kept w 0 _ c _ false hc f (some_fit _ (swap_fits w.tree c _ _ k fits false e))

  never_is : (b : Bool) → (k.first == NEVER) ≡ b → k.stage ≡ stages.Finish → k.kind ≡ kinds.Offline → (j : Walk)
      → cond b None (Some (at_stage k stages.Handing)) ≡ Some j → IsFit w.tree c (cpu_of w c).online (cpu_of w c).idle (forget j)
  never_is true b e kind j at = absurd (none-some j at)
  never_is false b e kind j at = some_fit (at_stage k stages.Handing) (record {
    in_tree = λ g. record { there = (fits.in_tree g).there; fits = kind };
    alone = λ none. absurd (true≢false (sym (eq-eqb k.first NEVER ((fits.alone none).offline kind)) ∙ b));
    flags = λ g. subst (FlagsAt (at_top w.tree c k.level) k.on k.over) e (fits.flags g);
    walker = fits.walker;
  }) j at

  finish_kept : (kind : WalkKind) → k.kind ≡ kind → k.stage ≡ stages.Finish → WalksFit w.tree (scene_of (own w c (finished (cpu_of w c) k kind)))
  finish_kept kinds.Activate same e = kept w 0 _ c _ false hc f (λ j at. absurd (none-some j at))
  finish_kept kinds.Deactivate same e = kept w 0 _ c _ false hc f (λ j at. absurd (none-some j at))
  finish_kept kinds.Offline same e = kept w 0 _ c _ false hc f (λ j at. never_is (k.first == NEVER) refl e same j at)
  finish_kept kinds.Reeval same e = kept w 0 _ c _ false hc f (λ j at. absurd (none-some j at))
  finish_kept (kinds.Remote by) same e = kept w 0 _ c _ false hc f (λ j at. absurd (none-some j at))

  by_stage : (st : Stage) → k.stage ≡ st → MayGoOn w c k st → WalksFit w.tree (scene_of (walked w c k st))
  by_stage stages.Own e may = kept w _ _ c _ false hc f (some_fit _ (own_fits w.tree c _ _ k fits e))
  by_stage stages.Up e may = kept w _ _ c _ true hc f (up_fits w.tree c _ _ k fits e (at_top w.tree c k.level) (is_none (group_of w (here w c k)).migrator) refl)
  by_stage (stages.Mark more) e may = kept w _ _ c _ false hc f (mark_fits w.tree c _ _ k fits more e)
  by_stage stages.Read e may = kept w 0 _ c _ false hc f (some_fit _ (read_fits w.tree c _ _ k fits e))
  by_stage stages.Child e may = kept w 0 _ c _ false hc f (some_fit _ (child_fits w.tree c _ _ k fits (child_on w c k.level) e))
  by_stage stages.Swap e may = swap_kept k.fresh e
  by_stage stages.LockChild e may = kept w _ _ c _ false hc f (some_fit _ (lock_child_fits w.tree c _ _ k fits e))
  by_stage stages.LockGroup e may = kept w _ _ c _ false hc f (some_fit _ (lock_group_fits w.tree c _ _ k fits e))
  by_stage stages.SeeChild e may = kept w 0 _ c _ false hc f (some_fit _ (see_child_fits w.tree c _ _ k fits (child_on w c k.level) e))
  by_stage stages.SeeGroup e may = kept w 0 _ c _ false hc f (some_fit _ (see_group_fits w.tree c _ _ k fits (is_some (group_of w (here w c k)).migrator) e))
  by_stage (stages.Scan j) e may = kept w 0 _ c _ false hc f (some_fit _ (scan_fit w.tree c _ _ k fits (event_at (group_of w (child_here w c k)).events j) j e))
  by_stage stages.Store e may = kept w _ _ c _ false hc f (some_fit _ (store_fit w.tree c _ _ k fits e))
  by_stage (stages.First j) e may = kept w 0 _ c _ false hc f (some_fit _ (first_fit w.tree c _ _ k fits (event_at (group_of w (here w c k)).events j) j e))
  by_stage stages.FreeGroup e may = kept w _ _ c _ false hc f (some_fit _ (free_group_fits w.tree c _ _ k fits e k.level refl))
  by_stage stages.FreeChild e may = kept w _ _ c _ false hc f (some_fit _ (free_child_fits w.tree c _ _ k fits e))
  by_stage stages.Finish e may = finish_kept k.kind refl e
  by_stage stages.Handing e may = absurd may

online_of : (online idle : Bool) → (online && not idle) ≡ true → online ≡ true
online_of true idle e = refl
online_of false idle e = absurd (true≢false (sym e))

quiet : (w : World) (step : Step) → WalksFit w.tree (scene_of w) → Enabled w step → is_quiet step ≡ true → WalksFit w.tree (scene_of (stepped w step))
quiet w step f e q = subst (WalksFit w.tree) (sym (quiet_steps w step e q)) f

pub walks_stay_fit : WalksStayFit
walks_stay_fit w (steps.Idle cpu) h f e = kept w 0 _ cpu.0 _ false e.is_free.in_range f
    (begun_fits w.tree cpu.0 _ _ kinds.Deactivate stages.Read _ _ (group_at_of w.tree cpu.0 0) refl refl (refl, refl) (online_of _ _ e.active, refl) (λ z. cc))
walks_stay_fit w (steps.Wake cpu) h f e = kept w 0 _ cpu.0 _ false e.is_free.in_range f
    (begun_fits w.tree cpu.0 _ _ kinds.Activate stages.Own _ _ (group_at_of w.tree cpu.0 0) refl (refl, refl) tt tt (λ z. cc))
walks_stay_fit w (steps.Offline cpu) h f e = kept w 0 _ cpu.0 _ false e.is_free.in_range f
    (begun_fits w.tree cpu.0 _ _ kinds.Offline stages.Read _ _ (group_at_of w.tree cpu.0 0) refl refl (refl, refl) refl (λ z. refl))
walks_stay_fit w (steps.Online cpu) h f e = kept w 0 _ cpu.0 _ false e.is_free.in_range f
    (begun_fits w.tree cpu.0 _ _ kinds.Activate stages.Own _ _ (group_at_of w.tree cpu.0 0) refl (refl, refl) tt tt (λ z. cc))
walks_stay_fit w (steps.Reeval cpu) h f e = kept w 0 _ cpu.0 _ false e.is_free.in_range f
    (begun_fits w.tree cpu.0 _ _ kinds.Reeval stages.LockGroup _ _ (group_at_of w.tree cpu.0 0) refl (λ z. cc) (refl, refl) (e.online, e.idle) (λ z. cc))
walks_stay_fit w (steps.Carry cpu) h f e = kept w 0 _ cpu.0 _ false e.is_free.in_range f
    (begun_fits w.tree cpu.0 _ _ (kinds.Remote _) stages.LockGroup _ _ (group_at_of w.tree cpu.0 0) refl (λ z. cc) (refl, refl) (e.online, e.idle) (λ z. cc))
walks_stay_fit w (steps.Walk cpu) h f e =
    subst (λ m. WalksFit w.tree (scene_of (walk_made w cpu.0 m))) (sym e.walk) (by_stage w cpu.0 e.made e.in_range f e.walk e.made.stage refl e.may_go_on)
walks_stay_fit w (steps.HandOn cpu to) h f e = kept w 0 _ cpu.0 _ false e.in_range f (λ j at. absurd (none-some j at))
walks_stay_fit w (steps.Clock now) h f e = quiet w (steps.Clock now) f e refl
walks_stay_fit w (steps.Enter cpu) h f e = quiet w (steps.Enter cpu) f e refl
walks_stay_fit w (steps.Leave cpu) h f e = quiet w (steps.Leave cpu) f e refl
walks_stay_fit w (steps.Arm cpu timer class expires job arg line) h f e = quiet w (steps.Arm cpu timer class expires job arg line) f e refl
walks_stay_fit w (steps.Cancel cpu timer by line) h f e = quiet w (steps.Cancel cpu timer by line) f e refl
walks_stay_fit w (steps.Hand cpu timer runner) h f e = quiet w (steps.Hand cpu timer runner) f e refl
walks_stay_fit w (steps.Ticked cpu class runner) h f e = quiet w (steps.Ticked cpu class runner) f e refl
walks_stay_fit w (steps.Move from to timer) h f e = quiet w (steps.Move from to timer) f e refl
walks_stay_fit w (steps.Take cpu by) h f e = quiet w (steps.Take cpu by) f e refl
walks_stay_fit w (steps.Release cpu) h f e = quiet w (steps.Release cpu) f e refl
