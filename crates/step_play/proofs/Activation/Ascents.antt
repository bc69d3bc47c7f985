-- the stages of an activation that is made alone
use Rattle.std.proofs.Common.{◌≡◌, inl, inr, ℕ, zero, suc, ◌+◌, ◌*◌, ◌≤◌, cond, Bool, true, false}
use Rattle.std.proofs.Common.{true≢false, Option, Some, None, refl, sym, ap, ◌∙◌, subst, arith}
use Rattle.std.specs.Prelude.{is_none, is_some}
use Rattle.std.specs.Option.{option_or}
use Rattle.std.proofs.lemmas.Bool.{cases_eq}
use Rattle.std.proofs.lemmas.Option.{none-some, same_Some}
use Rattle.tm_base.specs.declared.names.Child.{Child}
use Rattle.tm_base.specs.declared.names.Child.TheVariants as sorts
use Rattle.tm_base.specs.declared.names.TheConstants.{NEVER}
use Rattle.event_queue.specs.declared.event.Event.{Event}
use Rattle.tree_plan.specs.Shape.{Shape}
use Rattle.tree_plan.specs.Paths.{group_at_of, level_count_of}
use Rattle.walk_rules.specs.declared.walk.Walk.{Walk}
use Rattle.walk_rules.specs.declared.walk.Stage.TheVariants as stages
use Rattle.walk_rules.specs.Hierarchy.{IsHierarchy}
use Rattle.walk_rules.specs.Scene.{Group}
use Rattle.core_world.specs.World.{CpuRecord, World, cpu_of}
use Rattle.step_play.specs.Rules.Live.{Exact, first_in, told_by}
use Rattle.step_play.proofs.Activation.Alongside.{Alongside, role}
use Rattle.step_play.proofs.Activation.Made.{Made}
use Rattle.step_play.proofs.Activation.Touches.{ExactBut, tells}

-- at Own, at the leaf, with at most n steps left
pub record AtOwn (old : World) (c : ℕ) (y : CpuRecord) (n : ℕ) (w : World) : Type 0 where
  pub along : Alongside old c y w
  pub k : Walk
  pub walk : (cpu_of w c).walk ≡ Some k
  pub stage : k.stage ≡ stages.Own
  pub low : k.level ≡ 0
  pub g : ℕ
  pub here : group_at_of w.tree c 0 ≡ Some g
  pub made : Made old c 0 w
  pub exact : Exact w
  pub left : 2 * level_count_of w.tree + 1 ≤ n

-- at Up: the groups below are made active, and only the edge of this one may be open
pub record AtUp (old : World) (c : ℕ) (y : CpuRecord) (n : ℕ) (w : World) : Type 0 where
  pub along : Alongside old c y w
  pub k : Walk
  pub walk : (cpu_of w c).walk ≡ Some k
  pub stage : k.stage ≡ stages.Up
  pub g : ℕ
  pub here : group_at_of w.tree c k.level ≡ Some g
  pub made : Made old c k.level w
  pub exact : ExactBut w (λ z. z ≡ g)
  pub own : told_by w c ≡ NEVER
  pub left : 2 * level_count_of w.tree ≤ n + 2 * k.level

-- at Mark: this group is active, and was so already where there is no more to make active
pub record AtMark (old : World) (c : ℕ) (y : CpuRecord) (n : ℕ) (w : World) : Type 0 where
  pub along : Alongside old c y w
  pub k : Walk
  pub walk : (cpu_of w c).walk ≡ Some k
  pub more : Bool
  pub stage : k.stage ≡ stages.Mark more
  pub g : ℕ
  pub here : group_at_of w.tree c k.level ≡ Some g
  pub p : ℕ
  pub above : group_at_of w.tree c (suc k.level) ≡ Some p
  pub on : is_some (role w g) ≡ true
  pub made : more ≡ true → Made old c (suc k.level) w
  pub stop : more ≡ false → Made old c k.level w × (is_some (role old g) ≡ true)
  pub exact : ExactBut w (λ z. z ≡ g)
  pub own : told_by w c ≡ NEVER
  pub left : 2 * level_count_of w.tree ≤ suc (n + 2 * k.level)

-- at its end: all groups of the path that weren't active are made active
pub record Arrived (old : World) (c : ℕ) (y : CpuRecord) (w : World) : Type 0 where
  pub along : Alongside old c y w
  pub stops : (cpu_of w c).walk ≡ None
  pub count : ℕ
  pub made : Made old c count w
  pub over : (i g : ℕ) → count ≤ i → group_at_of w.tree c i ≡ Some g →
      is_some (role old g) ≡ true
  pub exact : Exact w
  pub own : told_by w c ≡ NEVER

-- the number of a child
abbrev pub number_of : Child → ℕ
number_of (sorts.Cpu d) = d.0
number_of (sorts.Group g) = g.0

-- options
pub none_of : (m : Option ℕ) → is_none m ≡ true → m ≡ None
none_of None e = refl
none_of (Some k) e = absurd (true≢false (sym e))

pub some_is : (m : Option ℕ) → is_none m ≡ false → is_some m ≡ true
some_is None e = absurd (true≢false e)
some_is (Some k) e = refl

pub some_of : (m : Option ℕ) → is_none m ≡ false → (k : ℕ) × (m ≡ Some k)
some_of None e = absurd (true≢false e)
some_of (Some k) e = (k, refl)

pub or_some : (m : Option ℕ) (k : ℕ) → is_some (option_or m (Some k)) ≡ true
or_some None k = refl
or_some (Some j) k = refl

pub or_same : (m : Option ℕ) (k : ℕ) → is_none m ≡ false → option_or m (Some k) ≡ m
or_same None k e = absurd (true≢false e)
or_same (Some j) k e = refl

by_role : (m : Option ℕ) (v : Option Event) → is_some m ≡ true → cond (is_none m) v None ≡ None
by_role None v e = absurd (true≢false (sym e))
by_role (Some k) v e = refl

-- an active group tells nothing
pub active_tells : (x : Group) → is_some x.migrator ≡ true → tells x ≡ None
active_tells x e = by_role x.migrator (first_in x.events) e

-- paths
module _ (t : Shape) (h : IsHierarchy t) (c : ℕ) where
  -- where a path has no group it has none above
  pub none_above : (l i q : ℕ) → group_at_of t c l ≡ None → l ≤ i → group_at_of t c i ≡ Some q → ⊥
  none_above l zero q none high at =
      let same : l ≡ 0 = omega arith in
      none-some q (sym none ∙ (ap (group_at_of t c) same ∙ at))
  none_above l (suc j) q none high at = elim (cases_eq l (suc j)) [
    | inl same ↦ none-some q (sym none ∙ (ap (group_at_of t c) same ∙ at))
    | inr ne ↦ let x = h.lower c j q at in none_above l j x.0 none (omega (arith, ne)) x.1
  ]

  -- what holds of a group of the path, and of a parent where it holds of the child, holds of all
  -- from there on
  module _ (Holds : ℕ → Type 0) (up : (i g p : ℕ) → group_at_of t c i ≡ Some g →
      group_at_of t c (suc i) ≡ Some p → Holds g → Holds p) (l g : ℕ)
      (here : group_at_of t c l ≡ Some g) (is : Holds g) where
    pub from_on : (i q : ℕ) → l ≤ i → group_at_of t c i ≡ Some q → Holds q
    from_on zero q high at =
        let same : l ≡ 0 = omega arith in
        subst Holds (same_Some g q (sym here ∙ (ap (group_at_of t c) same ∙ at))) is
    from_on (suc j) q high at = elim (cases_eq l (suc j)) [
      | inl same ↦
          subst Holds (same_Some g q (sym here ∙ (ap (group_at_of t c) same ∙ at))) is
      | inr ne ↦ let x = h.lower c j q at in
          up j x.0 q x.1 at (from_on j x.0 (omega (arith, ne)) x.1)
    ]
