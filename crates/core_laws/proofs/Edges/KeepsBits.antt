-- every step keeps what is said of bits
use Rattle.std.proofs.Common.{◌≡◌, ℕ, ◌<◌, Bool, true, false, length, Option, Some, None, refl, sym, ap, ◌∙◌, subst}
use Rattle.std.specs.Prelude.{◌&&◌, is_some, option_map, option_and_then}
use Rattle.std.specs.Option.{option_map_or}
use Rattle.std.proofs.lemmas.Option.{none-some}
use Rattle.tm_base.specs.Children.{of_cpu}
use Rattle.tree_plan.specs.Paths.{child_towards, group_at_of, parent_of}
use Rattle.walk_rules.specs.declared.walk.Walk.{Walk}
use Rattle.walk_rules.specs.declared.walk.WalkKind.{WalkKind}
use Rattle.walk_rules.specs.declared.walk.WalkKind.TheVariants as kinds
use Rattle.walk_rules.specs.declared.walk.Stage.TheVariants as stages
use Rattle.walk_rules.specs.Clearing.{clears, clears_by}
use Rattle.walk_rules.specs.Edges.{edge_of, passed_of}
use Rattle.walk_rules.specs.Hierarchy.{IsHierarchy}
use Rattle.walk_rules.specs.Scene.{Group}
use Rattle.walk_rules.specs.Stages.{forget}
use Rattle.walk_rules.specs.Standing.{is_leaving}
use Rattle.core_world.specs.declared.step.Step.{Step}
use Rattle.core_world.specs.declared.step.Step.TheVariants as steps
use Rattle.core_world.specs.Enabled.{Enabled}
use Rattle.core_world.specs.Frames.{IsSized, is_quiet}
use Rattle.core_world.specs.Steps.{stepped, walk_made, with_walk}
use Rattle.walk_rules.specs.Stages.{begun_where}
use Rattle.core_world.specs.World.{CpuRecord, World, cpu_of, group_of, is_active, own, scene_of}
use Rattle.core_world.proofs.Moves.{moved_laws}
use Rattle.core_world.proofs.Quiet.{moved_group_field, own_group, quiet_steps}
use Rattle.core_laws.specs.Walks.Fit.{WalksFit}
use Rattle.core_laws.proofs.Walks.Keeps.{walks_stay_fit}
use Rattle.core_laws.specs.Edges.Layer.{BitsFit, BitsStayFit, EdgesFit}
use Rattle.core_laws.proofs.Edges.Facts.{own_child}
use Rattle.core_laws.proofs.Edges.CalmSteps.{no_edge}
use Rattle.core_laws.proofs.Edges.Beginning.{and_false, begun_goes, begun_kind, forgets, off_idle, off_offline, own_begins, own_c, own_walk}
use Rattle.core_laws.proofs.Edges.Resting.{rest_bits}
use Rattle.core_laws.proofs.Edges.Waking.{wake_bits}
use Rattle.core_laws.proofs.Edges.SteadyBits.{steady_bits}
use Rattle.core_laws.proofs.Edges.Claims.{if_true}
use Rattle.core_laws.proofs.Edges.StageBits.{stage_bits, handed_bits}

quiet : (w : World) (step : Step) → BitsFit w.tree (scene_of w) → Enabled w step → is_quiet step ≡ true → BitsFit w.tree (scene_of (stepped w step))
quiet w step b e q = subst (BitsFit w.tree) (sym (quiet_steps w step e q)) b

-- a walk that tells begins
begun_bits : (w : World) (c : ℕ) (q : Bool) (kind : WalkKind) (pin next : ℕ) → c < length w.cpus → (cpu_of w c).walk ≡ None → (kind ≡ kinds.Activate → ⊥) → BitsFit w.tree (scene_of w)
    → WalksFit w.tree (scene_of (own w c (with_walk (cpu_of w c) (begun_where q kind stages.LockGroup pin next)))) → BitsFit w.tree (scene_of (own w c (with_walk (cpu_of w c) (begun_where q kind stages.LockGroup pin next))))
begun_bits w c q kind pin next hc free tells b new =
    let y = with_walk (cpu_of w c) (begun_where q kind stages.LockGroup pin next) in
    let none : (scene_of w).walk c ≡ None = ap (option_map forget) free in
    steady_bits w 0 (group_of w 0) c y false hc b
    (λ z. moved_group_field w 0 (group_of w 0) c y false (λ (i : Group). i.active) refl z) (λ z. moved_group_field w 0 (group_of w 0) c y false (λ (i : Group). i.migrator) refl z) refl
    (λ m p parent off bit claim. absurd (none-some m (sym (ap (clears_by w.tree c ((scene_of w).fresh c)) none) ∙ claim)))
    (λ z head. absurd (none-some z (sym (ap (λ i. option_and_then (group_at_of w.tree c) (edge_of i)) none) ∙ head)))
    (λ at. absurd (none-some (of_cpu c) (sym (ap (option_and_then (child_towards w.tree c)) (no_edge w.tree (scene_of (own w c y)) new c
    (λ j is act. (let p = forgets y.walk j (sym (ap (λ (i : CpuRecord). option_map forget i.walk) ((moved_laws w 0 (group_of w 0) c y false).cpu hc)) ∙ is) in
    tells (sym (begun_kind q kind stages.LockGroup pin next p.0 p.1) ∙ (ap (λ (i : Walk). i.kind) p.2 ∙ act)))))) ∙ at)))

-- a CPU goes idle or offline
rest_kept : (w : World) (c : ℕ) (y : CpuRecord) (hc : c < length w.cpus) (h : IsHierarchy w.tree) (walks : WalksFit w.tree (scene_of w)) (f : EdgesFit w.tree (scene_of w)) (b : BitsFit w.tree (scene_of w))
    → (cpu_of w c).walk ≡ None → is_active y ≡ false → (kind : WalkKind) → (kind ≡ kinds.Activate → ⊥) → is_leaving kind ≡ true → (pin next : ℕ) → (m : Option ℕ) → m ≡ group_at_of w.tree c 0
    → y.walk ≡ begun_where (is_some m) kind stages.Read pin next → WalksFit w.tree (scene_of (own w c y)) → BitsFit w.tree (scene_of (own w c y))
rest_kept w c y hc h walks f b free off kind tells leaving pin next m leaf begun new =
    let goes = begun_goes w c y hc walks f (is_some m) kind pin next tells new begun in
    let same = own_walk w c y hc walks f in
    rest_bits w.tree (scene_of w) (scene_of (own w c y)) c 0 false (moved_laws w 0 (group_of w 0) c y false).changes f
    (own_group w c y) (ap (option_map forget) free) (ap is_active (own_c w c y hc walks f) ∙ off) (record {
      nothing_passed = ap passed_of same ∙ goes.nothing_passed;
      no_edge = ap edge_of same ∙ goes.no_edge;
      not_swapping = λ k is. goes.not_swapping k (sym same ∙ is);
      no_activation = λ k is. goes.no_activation k (sym same ∙ is);
    })
    (λ p parent. clearing m leaf begun p parent) b
  where
    clearing : (m : Option ℕ) → m ≡ group_at_of w.tree c 0 → y.walk ≡ begun_where (is_some m) kind stages.Read pin next → (p : ℕ) → parent_of w.tree (of_cpu c) ≡ Some p → clears w.tree (scene_of (own w c y)) c ≡ Some (of_cpu c)
    clearing None leaf begun p parent = absurd (none-some p (leaf ∙ (h.onwards c 0 (of_cpu c) (own_child w.tree c) ∙ parent)))
    clearing (Some g) leaf begun p parent =
        ap (λ (z : CpuRecord). clears_by w.tree c (option_map_or (λ (i : Walk). i.fresh) z.walk false) (option_map forget z.walk)) ((moved_laws w 0 (group_of w 0) c y false).cpu hc)
        ∙ (ap (λ z. clears_by w.tree c (option_map_or (λ (i : Walk). i.fresh) z false) (option_map forget z)) begun
        ∙ (if_true (is_leaving kind) (child_towards w.tree c 0) leaving ∙ own_child w.tree c))

-- a CPU becomes active
wake_kept : (w : World) (c : ℕ) (y : CpuRecord) (hc : c < length w.cpus) (h : IsHierarchy w.tree) (walks : WalksFit w.tree (scene_of w)) (f : EdgesFit w.tree (scene_of w)) (b : BitsFit w.tree (scene_of w))
    → (cpu_of w c).walk ≡ None → is_active (cpu_of w c) ≡ false → is_active y ≡ true → (pin next : ℕ) → (m : Option ℕ) → m ≡ group_at_of w.tree c 0
    → y.walk ≡ begun_where (is_some m) kinds.Activate stages.Own pin next → BitsFit w.tree (scene_of (own w c y))
wake_kept w c y hc h walks f b free off on pin next m leaf begun =
    wake_bits w.tree h (scene_of w) (scene_of (own w c y)) c 0 false (moved_laws w 0 (group_of w 0) c y false).changes f
    (own_group w c y) (ap (option_map forget) free) off (ap is_active (own_c w c y hc walks f) ∙ on) (own_begins w c y hc walks f pin next m leaf (own_walk w c y hc walks f ∙ ap (option_map forget) begun)) b

walk_bits : (w : World) (c : ℕ) (k : Walk) → c < length w.cpus → IsHierarchy w.tree → IsSized w → WalksFit w.tree (scene_of w) → EdgesFit w.tree (scene_of w) → BitsFit w.tree (scene_of w) → (cpu_of w c).walk ≡ Some k
    → (m : Option Walk) → m ≡ Some k → WalksFit w.tree (scene_of (walk_made w c m)) → BitsFit w.tree (scene_of (walk_made w c m))
walk_bits w c k hc h sized walks f b is None at new = absurd (none-some k at)
walk_bits w c k hc h sized walks f b is (Some j) at new = stage_bits w c j hc h sized walks f b (is ∙ sym at) j.stage refl new

pub bits_stay_fit : BitsStayFit
bits_stay_fit w (steps.Idle cpu) h sized walks f b e =
    rest_kept w cpu.0 _ e.is_free.in_range h walks f b e.is_free.free (and_false (cpu_of w cpu.0).online) kinds.Deactivate (λ z. cc) refl _ _ (group_at_of w.tree cpu.0 0) refl refl (walks_stay_fit w (steps.Idle cpu) h walks e)
bits_stay_fit w (steps.Offline cpu) h sized walks f b e =
    rest_kept w cpu.0 _ e.is_free.in_range h walks f b e.is_free.free refl kinds.Offline (λ z. cc) refl _ _ (group_at_of w.tree cpu.0 0) refl refl (walks_stay_fit w (steps.Offline cpu) h walks e)
bits_stay_fit w (steps.Wake cpu) h sized walks f b e =
    wake_kept w cpu.0 _ e.is_free.in_range h walks f b e.is_free.free (off_idle (cpu_of w cpu.0).online (cpu_of w cpu.0).idle e.idle) (ap (λ q. q && true) e.online) _ _ (group_at_of w.tree cpu.0 0) refl refl
bits_stay_fit w (steps.Online cpu) h sized walks f b e =
    wake_kept w cpu.0 _ e.is_free.in_range h walks f b e.is_free.free (off_offline (cpu_of w cpu.0).online (cpu_of w cpu.0).idle e.offline) refl _ _ (group_at_of w.tree cpu.0 0) refl refl
bits_stay_fit w (steps.Reeval cpu) h sized walks f b e =
    begun_bits w cpu.0 (is_some (group_at_of w.tree cpu.0 0)) kinds.Reeval _ _ e.is_free.in_range e.is_free.free (λ z. cc) b (walks_stay_fit w (steps.Reeval cpu) h walks e)
bits_stay_fit w (steps.Carry cpu) h sized walks f b e =
    begun_bits w cpu.0 (is_some (group_at_of w.tree cpu.0 0)) (kinds.Remote _) _ _ e.is_free.in_range e.is_free.free (λ z. cc) b (walks_stay_fit w (steps.Carry cpu) h walks e)
bits_stay_fit w (steps.HandOn cpu to) h sized walks f b e =
    handed_bits w cpu.0 e.made e.in_range h sized walks f b e.walk e.handing (walks_stay_fit w (steps.HandOn cpu to) h walks e)
bits_stay_fit w (steps.Walk cpu) h sized walks f b e =
    walk_bits w cpu.0 e.made e.in_range h sized walks f b e.walk (cpu_of w cpu.0).walk e.walk (walks_stay_fit w (steps.Walk cpu) h walks e)
bits_stay_fit w (steps.Clock now) h sized walks f b e = quiet w (steps.Clock now) b e refl
bits_stay_fit w (steps.Enter cpu) h sized walks f b e = quiet w (steps.Enter cpu) b e refl
bits_stay_fit w (steps.Leave cpu) h sized walks f b e = quiet w (steps.Leave cpu) b e refl
bits_stay_fit w (steps.Arm cpu timer class expires job arg line) h sized walks f b e = quiet w (steps.Arm cpu timer class expires job arg line) b e refl
bits_stay_fit w (steps.Cancel cpu timer by line) h sized walks f b e = quiet w (steps.Cancel cpu timer by line) b e refl
bits_stay_fit w (steps.Hand cpu timer runner) h sized walks f b e = quiet w (steps.Hand cpu timer runner) b e refl
bits_stay_fit w (steps.Ticked cpu class runner) h sized walks f b e = quiet w (steps.Ticked cpu class runner) b e refl
bits_stay_fit w (steps.Move from to timer) h sized walks f b e = quiet w (steps.Move from to timer) b e refl
bits_stay_fit w (steps.Take cpu by) h sized walks f b e = quiet w (steps.Take cpu by) b e refl
bits_stay_fit w (steps.Release cpu) h sized walks f b e = quiet w (steps.Release cpu) b e refl
