-- every step keeps the layer
use Rattle.std.proofs.Common.{◌≡◌, ℕ, ◌<◌, Bool, true, false, length, Option, Some, None, refl, sym, ap, ◌∙◌, subst}
use Rattle.std.specs.Prelude.{◌&&◌, is_some, option_map}
use Rattle.std.proofs.lemmas.Option.{none-some}
use Rattle.tree_plan.specs.Paths.{group_at_of}
use Rattle.walk_rules.specs.declared.walk.Walk.{Walk}
use Rattle.walk_rules.specs.declared.walk.WalkKind.{WalkKind}
use Rattle.walk_rules.specs.declared.walk.WalkKind.TheVariants as kinds
use Rattle.walk_rules.specs.declared.walk.Stage.TheVariants as stages
use Rattle.walk_rules.specs.Hierarchy.{IsHierarchy}
use Rattle.walk_rules.specs.Scene.{Group}
use Rattle.walk_rules.specs.Stages.{forget}
use Rattle.core_world.specs.declared.step.Step.{Step}
use Rattle.core_world.specs.declared.step.Step.TheVariants as steps
use Rattle.core_world.specs.Enabled.{Enabled}
use Rattle.core_world.specs.Frames.{IsSized, is_quiet}
use Rattle.core_world.specs.Steps.{stepped, walk_made, with_walk}
use Rattle.walk_rules.specs.Stages.{begun_where}
use Rattle.core_world.specs.World.{World, cpu_of, group_of, own, scene_of}
use Rattle.core_world.proofs.Quiet.{own_group, quiet_steps}
use Rattle.core_laws.specs.Walks.Fit.{WalksFit}
use Rattle.core_laws.proofs.Walks.Keeps.{walks_stay_fit}
use Rattle.core_laws.specs.Edges.Layer.{EdgesFit, EdgesStayFit}
use Rattle.core_laws.proofs.Edges.CalmSteps.{quiet_kept}
use Rattle.core_laws.proofs.Edges.Beginning.{and_false, rests, wakes, begun_swap, begun_kind, begun_goes, off_offline, off_idle}
use Rattle.core_laws.proofs.Edges.StageKeeps.{on_end, by_stage}

quiet : (w : World) (step : Step) → EdgesFit w.tree (scene_of w) → Enabled w step → is_quiet step ≡ true → EdgesFit w.tree (scene_of (stepped w step))
quiet w step f e q = subst (EdgesFit w.tree) (sym (quiet_steps w step e q)) f

-- a walk of a free CPU that tells begins
begun_kept : (w : World) (c : ℕ) (b : Bool) (kind : WalkKind) (pin next : ℕ) → c < length w.cpus → (cpu_of w c).walk ≡ None → (kind ≡ kinds.Activate → ⊥) → WalksFit w.tree (scene_of w) → EdgesFit w.tree (scene_of w)
    → WalksFit w.tree (scene_of (own w c (with_walk (cpu_of w c) (begun_where b kind stages.LockGroup pin next))))
    → EdgesFit w.tree (scene_of (own w c (with_walk (cpu_of w c) (begun_where b kind stages.LockGroup pin next))))
begun_kept w c b kind pin next hc free tells walks f new =
    let y = with_walk (cpu_of w c) (begun_where b kind stages.LockGroup pin next) in
    quiet_kept w 0 (group_of w 0) c y false hc f
    (λ x. ap (λ (z : Group). z.active) (own_group w c y x)) (λ x. ap (λ (z : Group). z.migrator) (own_group w c y x)) refl
    walks new (λ j at kind. none-some j (sym (ap (option_map forget) free) ∙ at))
    (λ j at activate. tells (sym (begun_kind b kind stages.LockGroup pin next j at) ∙ activate))
    (λ j at. begun_swap b kind stages.LockGroup pin next refl j at)

-- the walk at Handing ends
handed_kept : (w : World) (c : ℕ) (k : Walk) → c < length w.cpus → IsHierarchy w.tree → IsSized w → WalksFit w.tree (scene_of w) → EdgesFit w.tree (scene_of w) → (cpu_of w c).walk ≡ Some k → k.stage ≡ stages.Handing
    → WalksFit w.tree (scene_of (own w c (with_walk (cpu_of w c) None))) → EdgesFit w.tree (scene_of (own w c (with_walk (cpu_of w c) None)))
handed_kept w c k hc h sized walks f is e new = on_end w c k hc h sized walks f is stages.Handing e refl (with_walk (cpu_of w c) None) refl (λ j at. absurd (none-some j at)) new

walk_kept : (w : World) (c : ℕ) (k : Walk) → c < length w.cpus → IsHierarchy w.tree → IsSized w → WalksFit w.tree (scene_of w) → EdgesFit w.tree (scene_of w) → (cpu_of w c).walk ≡ Some k
    → (m : Option Walk) → m ≡ Some k → WalksFit w.tree (scene_of (walk_made w c m)) → EdgesFit w.tree (scene_of (walk_made w c m))
walk_kept w c k hc h sized walks f is None at new = absurd (none-some k at)
walk_kept w c k hc h sized walks f is (Some j) at new = by_stage w c j hc h sized walks f (is ∙ sym at) j.stage refl new

pub edges_stay_fit : EdgesStayFit
edges_stay_fit w (steps.Idle cpu) h sized walks f e =
    rests w cpu.0 _ e.is_free.in_range walks f e.is_free.free (and_false (cpu_of w cpu.0).online)
    (begun_goes w cpu.0 _ e.is_free.in_range walks f (is_some (group_at_of w.tree cpu.0 0)) kinds.Deactivate _ _ (λ z. cc) (walks_stay_fit w (steps.Idle cpu) h walks e) refl)
edges_stay_fit w (steps.Offline cpu) h sized walks f e =
    rests w cpu.0 _ e.is_free.in_range walks f e.is_free.free refl
    (begun_goes w cpu.0 _ e.is_free.in_range walks f (is_some (group_at_of w.tree cpu.0 0)) kinds.Offline _ _ (λ z. cc) (walks_stay_fit w (steps.Offline cpu) h walks e) refl)
edges_stay_fit w (steps.Wake cpu) h sized walks f e =
    wakes w cpu.0 _ e.is_free.in_range walks f h e.is_free.free (off_idle (cpu_of w cpu.0).online (cpu_of w cpu.0).idle e.idle) (ap (λ b. b && true) e.online) _ _ (group_at_of w.tree cpu.0 0) refl refl
edges_stay_fit w (steps.Online cpu) h sized walks f e =
    wakes w cpu.0 _ e.is_free.in_range walks f h e.is_free.free (off_offline (cpu_of w cpu.0).online (cpu_of w cpu.0).idle e.offline) refl _ _ (group_at_of w.tree cpu.0 0) refl refl
edges_stay_fit w (steps.Reeval cpu) h sized walks f e =
    begun_kept w cpu.0 (is_some (group_at_of w.tree cpu.0 0)) kinds.Reeval _ _ e.is_free.in_range e.is_free.free (λ z. cc) walks f (walks_stay_fit w (steps.Reeval cpu) h walks e)
edges_stay_fit w (steps.Carry cpu) h sized walks f e =
    begun_kept w cpu.0 (is_some (group_at_of w.tree cpu.0 0)) (kinds.Remote _) _ _ e.is_free.in_range e.is_free.free (λ z. cc) walks f (walks_stay_fit w (steps.Carry cpu) h walks e)
edges_stay_fit w (steps.HandOn cpu to) h sized walks f e =
    handed_kept w cpu.0 e.made e.in_range h sized walks f e.walk e.handing (walks_stay_fit w (steps.HandOn cpu to) h walks e)
edges_stay_fit w (steps.Walk cpu) h sized walks f e =
    walk_kept w cpu.0 e.made e.in_range h sized walks f e.walk (cpu_of w cpu.0).walk e.walk (walks_stay_fit w (steps.Walk cpu) h walks e)
edges_stay_fit w (steps.Clock now) h sized walks f e = quiet w (steps.Clock now) f e refl
edges_stay_fit w (steps.Enter cpu) h sized walks f e = quiet w (steps.Enter cpu) f e refl
edges_stay_fit w (steps.Leave cpu) h sized walks f e = quiet w (steps.Leave cpu) f e refl
edges_stay_fit w (steps.Arm cpu timer class expires job arg line) h sized walks f e = quiet w (steps.Arm cpu timer class expires job arg line) f e refl
edges_stay_fit w (steps.Cancel cpu timer by line) h sized walks f e = quiet w (steps.Cancel cpu timer by line) f e refl
edges_stay_fit w (steps.Hand cpu timer runner) h sized walks f e = quiet w (steps.Hand cpu timer runner) f e refl
edges_stay_fit w (steps.Ticked cpu class runner) h sized walks f e = quiet w (steps.Ticked cpu class runner) f e refl
edges_stay_fit w (steps.Move from to timer) h sized walks f e = quiet w (steps.Move from to timer) f e refl
edges_stay_fit w (steps.Take cpu by) h sized walks f e = quiet w (steps.Take cpu by) f e refl
edges_stay_fit w (steps.Release cpu) h sized walks f e = quiet w (steps.Release cpu) f e refl
