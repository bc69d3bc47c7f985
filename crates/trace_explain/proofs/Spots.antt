-- where the next step of a walk is
use Rattle.std.proofs.Common.{◌≡◌, ℕ, zero, suc, ◌+◌, ◌-◌, ◌<◌, Some, sym, ap, ◌∙◌}
use Rattle.std.proofs.Common.{Bool, subst, arith}
use Rattle.std.proofs.lemmas.Option.{none-some, same_Some}
use Rattle.tree_plan.specs.Shape.{Shape}
use Rattle.walk_rules.specs.declared.walk.Walk.{Walk}
use Rattle.walk_rules.specs.declared.walk.Stage.{Stage}
use Rattle.walk_rules.specs.declared.walk.Stage.TheVariants as stages
use Rattle.walk_rules.specs.Queues.{group_under}
use Rattle.walk_rules.specs.Standing.{FitsStage}
use Rattle.step_causes.specs.core_facts.Places.{PlacesFit, StandsAtGroup}
use Rattle.step_causes.specs.core_state.Kept.{HasLevel}
use Rattle.core_world.specs.World.{World, cpu_of}
use Rattle.trace_explain.specs.Walks.{level_named}

under : (t : Shape) (c l h : ℕ) → group_under t c l ≡ Some h → HasLevel t c (l - 1)
under t c zero h is = absurd (none-some h is)
under t c (suc l) h is =
    let same : suc l - 1 ≡ l = omega arith in
    subst (HasLevel t c) (sym same) (h, is)

module _
    (w : World) (places : PlacesFit w) (c : ℕ) (k : Walk)
    (walk : (cpu_of w c).walk ≡ Some k)
  where
    stands : (k.stage ≡ stages.Finish → ⊥) → StandsAtGroup w c k
    stands other = places.in_tree c k walk (places.stages_of c k walk other)

    here : (k.stage ≡ stages.Finish → ⊥) → HasLevel w.tree c k.level
    here other = let s = stands other in (s.group.0, s.group.1.path)

    at_level : (k.stage ≡ stages.Finish → ⊥) → (l : ℕ) → Some l ≡ Some k.level →
        HasLevel w.tree c l
    at_level other l is = subst (HasLevel w.tree c) (sym (same_Some l k.level is)) (here other)

    fits : (stage : Stage) → k.stage ≡ stage → (stage ≡ stages.Finish → ⊥) →
        FitsStage w.tree c k.kind k.level stage
    fits stage at other =
        subst (FitsStage w.tree c k.kind k.level) at (stands (λ e. other (sym at ∙ e))).fits

    below : (k.stage ≡ stages.Finish → ⊥) → 0 < k.level → (l : ℕ) → Some l ≡ Some (k.level - 1) →
        HasLevel w.tree c l
    below other high l is =
        let child = (stands other).child high in
        subst (HasLevel w.tree c) (sym (same_Some l (k.level - 1) is))
        (under w.tree c k.level child.0 child.1)

    above : (more : Bool) → k.stage ≡ stages.Mark more → (l : ℕ) → Some l ≡ Some (k.level + 1) →
        HasLevel w.tree c l
    above more at l is =
        let next = (stands (λ e. cc (at, e))).marks more at in
        let same : suc k.level ≡ k.level + 1 = omega arith in
        subst (HasLevel w.tree c) (same ∙ sym (same_Some l (k.level + 1) is)) next

    -- the group that the next step names is on the path
    pub is_there : (stage : Stage) → k.stage ≡ stage → (l : ℕ) →
        Some l ≡ level_named k.level stage → HasLevel w.tree c l
    is_there stages.Own at l is =
        let leaf = (fits stages.Own at (λ e. cc e)).1 in
        at_level (λ e. cc (at, e)) l (is ∙ ap Some (sym leaf))
    is_there stages.Up at l is = at_level (λ e. cc (at, e)) l is
    is_there (stages.Mark more) at l is = above more at l is
    is_there stages.Read at l is = at_level (λ e. cc (at, e)) l is
    is_there stages.Child at l is = at_level (λ e. cc (at, e)) l is
    is_there stages.Swap at l is = at_level (λ e. cc (at, e)) l is
    is_there stages.LockChild at l is =
        below (λ e. cc (at, e)) (fits stages.LockChild at (λ e. cc e)).1 l is
    is_there stages.LockGroup at l is = at_level (λ e. cc (at, e)) l is
    is_there stages.SeeChild at l is =
        below (λ e. cc (at, e)) (fits stages.SeeChild at (λ e. cc e)).1 l is
    is_there stages.SeeGroup at l is = at_level (λ e. cc (at, e)) l is
    is_there (stages.Scan j) at l is =
        below (λ e. cc (at, e)) (fits (stages.Scan j) at (λ e. cc e)).1 l is
    is_there stages.Store at l is = at_level (λ e. cc (at, e)) l is
    is_there (stages.First j) at l is = at_level (λ e. cc (at, e)) l is
    is_there stages.FreeGroup at l is = at_level (λ e. cc (at, e)) l is
    is_there stages.FreeChild at l is =
        below (λ e. cc (at, e)) (fits stages.FreeChild at (λ e. cc e)).1 l is
    is_there stages.Finish at l is = absurd (none-some l (sym is))
    is_there stages.Handing at l is = absurd (none-some l (sym is))
