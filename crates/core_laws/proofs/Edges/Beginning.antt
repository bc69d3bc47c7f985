-- a CPU goes idle, offline or becomes active, and a walk of it begins: the layer is kept
use Rattle.std.proofs.Common.{◌≡◌, inl, inr, ℕ, ◌<◌, Bool, true, false, true≢false, length, Option, Some, None, refl, sym, ap, ◌∙◌}
use Rattle.std.specs.Prelude.{◌&&◌, not, is_some, option_map}
use Rattle.std.proofs.lemmas.Option.{none-some, same_Some}
use Rattle.tree_plan.specs.Paths.{group_at_of}
use Rattle.walk_rules.specs.declared.walk.Walk.{Walk}
use Rattle.walk_rules.specs.declared.walk.WalkKind.{WalkKind}
use Rattle.walk_rules.specs.declared.walk.WalkKind.TheVariants as kinds
use Rattle.walk_rules.specs.declared.walk.Stage.{Stage}
use Rattle.walk_rules.specs.declared.walk.Stage.TheVariants as stages
use Rattle.walk_rules.specs.Edges.{edge_of, passed_of}
use Rattle.walk_rules.specs.Hierarchy.{IsHierarchy}
use Rattle.walk_rules.specs.Stages.{forget}
use Rattle.walk_rules.specs.Stages.{begun_where}
use Rattle.core_world.specs.World.{CpuRecord, World, cpu_of, group_of, is_active, own, scene_of}
use Rattle.core_world.proofs.Moves.{moved_laws}
use Rattle.core_world.proofs.Quiet.{own_group}
use Rattle.core_laws.specs.Walks.Fit.{WalksFit}
use Rattle.core_laws.specs.Edges.Layer.{EdgesFit}
use Rattle.core_laws.proofs.Edges.Resting.{rest_fit}
use Rattle.core_laws.proofs.Edges.Waking.{Begins, wake_fit}
use Rattle.core_laws.proofs.Edges.Stages.{is_swap}
use Rattle.core_laws.proofs.Edges.CalmSteps.{no_edge, none_passed}

pub and_false : (b : Bool) → (b && false) ≡ false
and_false true = refl
and_false false = refl

-- STEPS WITHOUT A GROUP: what `own` leaves
module _ (w : World) (c : ℕ) (y : CpuRecord) (hc : c < length w.cpus) (walks : WalksFit w.tree (scene_of w)) (f : EdgesFit w.tree (scene_of w)) where
  pub own_c : cpu_of (own w c y) c ≡ y
  own_c = (moved_laws w 0 (group_of w 0) c y false).cpu hc

  pub own_walk : (scene_of (own w c y)).walk c ≡ option_map forget y.walk
  own_walk = ap (λ (z : CpuRecord). option_map forget z.walk) own_c

  -- a CPU that goes idle or offline
  pub record Goes (m : Option Walk) : Type 0 where
    pub nothing_passed : passed_of (option_map forget m) ≡ 0
    pub no_edge : edge_of (option_map forget m) ≡ None
    pub not_swapping : (k : Walk) → option_map forget m ≡ Some k → k.stage ≡ stages.Swap → ⊥
    pub no_activation : (k : Walk) → option_map forget m ≡ Some k → k.kind ≡ kinds.Activate → ⊥

  pub rests : (cpu_of w c).walk ≡ None → is_active y ≡ false → Goes y.walk → EdgesFit w.tree (scene_of (own w c y))
  rests free off goes = rest_fit w.tree (scene_of w) (scene_of (own w c y)) c 0 false (moved_laws w 0 (group_of w 0) c y false).changes f
      (own_group w c y) (ap (option_map forget) free) (ap is_active own_c ∙ off) (record {
        nothing_passed = ap passed_of own_walk ∙ goes.nothing_passed;
        no_edge = ap edge_of own_walk ∙ goes.no_edge;
        not_swapping = λ k is. goes.not_swapping k (sym own_walk ∙ is);
        no_activation = λ k is. goes.no_activation k (sym own_walk ∙ is);
      })

  -- such a walk stands at the CPU's own edge
  pub own_begins : (pin next : ℕ) (m : Option ℕ) → m ≡ group_at_of w.tree c 0 → (scene_of (own w c y)).walk c ≡ option_map forget (begun_where (is_some m) kinds.Activate stages.Own pin next)
      → Begins w.tree (scene_of (own w c y)) c
  own_begins pin next None none is = record {
    nothing_passed = ap passed_of is;
    not_swapping = λ k at swap. none-some k (sym is ∙ at);
    edge = inr (ap edge_of is, sym none);
  }
  own_begins pin next (Some g) some is = record {
    nothing_passed = ap passed_of is;
    not_swapping = λ k at swap. let own_at = ap (λ (z : Walk). is_swap z.stage) (same_Some _ _ (sym is ∙ at)) in true≢false (sym (ap is_swap swap) ∙ sym own_at);
    edge = inl (ap edge_of is);
  }

  -- a CPU that becomes active
  pub wakes : IsHierarchy w.tree → (cpu_of w c).walk ≡ None → is_active (cpu_of w c) ≡ false → is_active y ≡ true → (pin next : ℕ) → (m : Option ℕ) → m ≡ group_at_of w.tree c 0
      → y.walk ≡ begun_where (is_some m) kinds.Activate stages.Own pin next → EdgesFit w.tree (scene_of (own w c y))
  wakes h free off on pin next m leaf begun = wake_fit w.tree h (scene_of w) (scene_of (own w c y)) c 0 false (moved_laws w 0 (group_of w 0) c y false).changes f
      (own_group w c y) (ap (option_map forget) free) off (ap is_active own_c ∙ on) (own_begins pin next m leaf (own_walk ∙ ap (option_map forget) begun))

-- what begins as a CPU goes idle or offline
pub begun_swap : (b : Bool) (kind : WalkKind) (stage : Stage) (pin next : ℕ) → is_swap stage ≡ false → (k : Walk) → begun_where b kind stage pin next ≡ Some k → is_swap k.stage ≡ false
begun_swap true kind stage pin next other k is = sym (ap (λ (z : Walk). is_swap z.stage) (same_Some _ _ is)) ∙ other
begun_swap false kinds.Activate stage pin next other k is = absurd (none-some k is)
begun_swap false kinds.Deactivate stage pin next other k is = sym (ap (λ (z : Walk). is_swap z.stage) (same_Some _ _ is))
begun_swap false kinds.Offline stage pin next other k is = sym (ap (λ (z : Walk). is_swap z.stage) (same_Some _ _ is))
begun_swap false kinds.Reeval stage pin next other k is = sym (ap (λ (z : Walk). is_swap z.stage) (same_Some _ _ is))
begun_swap false (kinds.Remote by) stage pin next other k is = sym (ap (λ (z : Walk). is_swap z.stage) (same_Some _ _ is))

pub begun_kind : (b : Bool) (kind : WalkKind) (stage : Stage) (pin next : ℕ) → (k : Walk) → begun_where b kind stage pin next ≡ Some k → k.kind ≡ kind
begun_kind true kind stage pin next k is = sym (ap (λ (z : Walk). z.kind) (same_Some _ _ is))
begun_kind false kinds.Activate stage pin next k is = absurd (none-some k is)
begun_kind false kinds.Deactivate stage pin next k is = sym (ap (λ (z : Walk). z.kind) (same_Some _ _ is))
begun_kind false kinds.Offline stage pin next k is = sym (ap (λ (z : Walk). z.kind) (same_Some _ _ is))
begun_kind false kinds.Reeval stage pin next k is = sym (ap (λ (z : Walk). z.kind) (same_Some _ _ is))
begun_kind false (kinds.Remote by) stage pin next k is = sym (ap (λ (z : Walk). z.kind) (same_Some _ _ is))

pub forgets : (m : Option Walk) (k : Walk) → option_map forget m ≡ Some k → (j : Walk) × (m ≡ Some j) × (forget j ≡ k)
forgets None k e = absurd (none-some k e)
forgets (Some j) k e = (j, refl, same_Some _ _ e)

-- a walk that goes away begins
pub begun_goes : (w : World) (c : ℕ) (y : CpuRecord) (hc : c < length w.cpus) (walks : WalksFit w.tree (scene_of w)) (f : EdgesFit w.tree (scene_of w))
    → (b : Bool) (kind : WalkKind) (pin next : ℕ) → (kind ≡ kinds.Activate → ⊥) → WalksFit w.tree (scene_of (own w c y)) → y.walk ≡ begun_where b kind stages.Read pin next
    → Goes w c y hc walks f y.walk
begun_goes w c y hc walks f b kind pin next tells new begun =
    let none : (k : Walk) → option_map forget y.walk ≡ Some k → k.kind ≡ kinds.Activate → ⊥ =
    λ k is at. (let j = forgets y.walk k is in tells (sym (begun_kind b kind stages.Read pin next j.0 (sym begun ∙ j.1)) ∙ (ap (λ (z : Walk). z.kind) j.2 ∙ at))) in
    let same = own_walk w c y hc walks f in
    record {
      nothing_passed = sym (ap passed_of same) ∙ none_passed w.tree (scene_of (own w c y)) new c (λ k is. none k (sym same ∙ is));
      no_edge = sym (ap edge_of same) ∙ no_edge w.tree (scene_of (own w c y)) new c (λ k is. none k (sym same ∙ is));
      not_swapping = λ k is swap.
          (let j = forgets y.walk k is in
          true≢false (sym (ap is_swap (ap (λ (z : Walk). z.stage) j.2 ∙ swap)) ∙ begun_swap b kind stages.Read pin next refl j.0 (sym begun ∙ j.1)));
      no_activation = none;
    }

pub off_offline : (online idle : Bool) → online ≡ false → (online && not idle) ≡ false
off_offline online idle e = ap (λ b. b && not idle) e

pub off_idle : (online idle : Bool) → idle ≡ true → (online && not idle) ≡ false
off_idle online idle e = ap (λ b. online && not b) e ∙ and_false online
