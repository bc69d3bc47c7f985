-- what is said of walks at Own and Mark follows from edges and bits
use Rattle.std.proofs.Common.{◌≡◌, inl, inr, ℕ, suc, true≢false, Some, refl, sym, ap, ◌∙◌, subst, arith}
use Rattle.tree_plan.specs.Shape.{Shape}
use Rattle.walk_rules.specs.declared.walk.Walk.{Walk}
use Rattle.walk_rules.specs.declared.walk.Stage.{Stage}
use Rattle.walk_rules.specs.declared.walk.Stage.TheVariants as stages
use Rattle.walk_rules.specs.Clearing.{MarksActive}
use Rattle.walk_rules.specs.Edges.{passed_levels, passed_of}
use Rattle.walk_rules.specs.Hierarchy.{IsHierarchy}
use Rattle.walk_rules.specs.Scene.{Scene}
use Rattle.walk_rules.specs.Standing.{FitsStage}
use Rattle.core_laws.specs.Walks.Fit.{WalksFit}
use Rattle.core_laws.specs.Edges.Layer.{EdgesFit, MarksFollow}
use Rattle.core_laws.proofs.Walks.Stands.{stage_fits}
use Rattle.core_laws.proofs.Edges.Stages.{is_finish}
use Rattle.core_laws.proofs.Edges.Claims.{law_on}

-- 6 follows: at Mark the edge into the group was passed, so the group has an active child
marks_at : (t : Shape) (s : Scene) (h : IsHierarchy t) (walks : WalksFit t s) (f : EdgesFit t s) (c : ℕ) (k : Walk) → s.walk c ≡ Some k → (st : Stage) → k.stage ≡ st → MarksActive t s c k.level st
marks_at t s h walks f c k is stages.Own e = elim (stage_fits t s walks c k is) [
  | inl fits ↦ f.edges.active c k is (subst (FitsStage t c k.kind k.level) e fits).0
  | inr finishing ↦ absurd (true≢false (ap is_finish (sym finishing ∙ e)))
]
marks_at t s h walks f c k is (stages.Mark more) e = λ g at.
    (let low = h.towards c k.level g at in
    let passed : passed_of (s.walk c) ≡ suc k.level = ap passed_of is ∙ ap (passed_levels k.level) e in
    law_on _ _ _ (f.groups.law g) (f.edges.passed c low.0 g (record { at = k.level; below = omega (arith, passed); child = low.1; parent = at })))
marks_at t s h walks f c k is stages.Up e = tt
marks_at t s h walks f c k is stages.Read e = tt
marks_at t s h walks f c k is stages.Child e = tt
marks_at t s h walks f c k is stages.Swap e = tt
marks_at t s h walks f c k is stages.LockChild e = tt
marks_at t s h walks f c k is stages.LockGroup e = tt
marks_at t s h walks f c k is stages.SeeChild e = tt
marks_at t s h walks f c k is stages.SeeGroup e = tt
marks_at t s h walks f c k is (stages.Scan j) e = tt
marks_at t s h walks f c k is stages.Store e = tt
marks_at t s h walks f c k is (stages.First j) e = tt
marks_at t s h walks f c k is stages.FreeGroup e = tt
marks_at t s h walks f c k is stages.FreeChild e = tt
marks_at t s h walks f c k is stages.Finish e = tt
marks_at t s h walks f c k is stages.Handing e = tt

pub marks_follow : MarksFollow
marks_follow t s h walks f c k is = marks_at t s h walks f c k is k.stage refl
