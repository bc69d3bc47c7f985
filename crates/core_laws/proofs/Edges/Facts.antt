-- for crates above: paths, and where activations stand
use Rattle.std.proofs.Common.{◌≡◌, inl, inr, ℕ, zero, suc, ◌<◌, ◌≤◌, true, false, Option, Some, None, refl, sym, ap, ◌∙◌, subst, arith}
use Rattle.std.specs.Prelude.{is_some, option_map, option_and_then}
use Rattle.std.proofs.lemmas.Option.{none-some, same_Some}
use Rattle.group_word.specs.Group.{GroupLaw, IsActive}
use Rattle.tm_base.specs.declared.names.Child.TheVariants as sorts
use Rattle.tm_base.specs.declared.names.Child.{Child}
use Rattle.tree_plan.specs.Shape.{Shape}
use Rattle.tm_base.specs.Children.{of_cpu, of_group}
use Rattle.tree_plan.specs.Paths.{bit_of, group_at_of, child_towards}
use Rattle.walk_rules.specs.declared.walk.Walk.{Walk}
use Rattle.walk_rules.specs.declared.walk.WalkKind.{WalkKind}
use Rattle.walk_rules.specs.declared.walk.WalkKind.TheVariants as kinds
use Rattle.walk_rules.specs.declared.walk.Stage.{Stage}
use Rattle.walk_rules.specs.declared.walk.Stage.TheVariants as stages
use Rattle.walk_rules.specs.Edges.{EdgesHold, GroupsLawful, HasPassed, edge_level, edge_of, passed_levels, passed_of, stand}
use Rattle.walk_rules.specs.Hierarchy.{IsHierarchy}
use Rattle.walk_rules.specs.Scene.{Scene, is_on}
use Rattle.walk_rules.specs.Standing.{FitsStage}
use Rattle.core_laws.proofs.Walks.Stands.{stage_fits}
use Rattle.core_laws.specs.Walks.Fit.{WalksFit}

-- the number of a child
abbrev number_of : Child → ℕ
number_of (sorts.Cpu c) = c.0
number_of (sorts.Group g) = g.0

module _ (t : Shape) where
  pub own_child : (c : ℕ) → child_towards t c 0 ≡ Some (of_cpu c)
  unfolding child_towards
  own_child c = refl

  pub group_child : (c l : ℕ) → child_towards t c (suc l) ≡ option_map of_group (group_at_of t c l)
  unfolding child_towards
  group_child c l = refl

  not_cpu : (m : Option ℕ) (c : ℕ) → option_map of_group m ≡ Some (of_cpu c) → ⊥
  not_cpu None c e = none-some _ e
  not_cpu (Some g) c e = cc

  mapped : (m : Option ℕ) (g : ℕ) → option_map of_group m ≡ Some (of_group g) → m ≡ Some g
  mapped None g e = absurd (none-some _ e)
  mapped (Some x) g e = ap (λ m. Some (number_of m)) (same_Some _ _ e)

  -- a path comes through a CPU at level 0 alone, and that of itself; through a group above its level
  pub own_edge : (d n c : ℕ) → child_towards t d n ≡ Some (of_cpu c) → d ≡ c
  own_edge d zero c e = ap number_of (same_Some _ _ (sym (own_child d) ∙ e))
  own_edge d (suc n) c e = absurd (not_cpu (group_at_of t d n) c (sym (group_child d n) ∙ e))

  pub group_edge : (d n g : ℕ) → child_towards t d n ≡ Some (of_group g) → (j : ℕ) × (n ≡ suc j) × (group_at_of t d j ≡ Some g)
  group_edge d zero g e = let p = same_Some _ _ (sym (own_child d) ∙ e) in absurd (cc)
  group_edge d (suc n) g e = (n, refl, mapped (group_at_of t d n) g (sym (group_child d n) ∙ e))

  pub through_group : (c l g : ℕ) → group_at_of t c l ≡ Some g → child_towards t c (suc l) ≡ Some (of_group g)
  through_group c l g e = group_child c l ∙ ap (option_map of_group) e

-- by stage: an activation alone stands at an edge or has passed one
pub edge_kind : (t : Shape) (c : ℕ) (kind : WalkKind) (level : ℕ) (st : Stage) (n : ℕ) → FitsStage t c kind level st → edge_level level st ≡ Some n → kind ≡ kinds.Activate
edge_kind t c kind level stages.Own n f e = f.0
edge_kind t c kind level stages.Up n f e = f
edge_kind t c kind level (stages.Mark true) n f e = f.0
edge_kind t c kind level (stages.Mark false) n f e = absurd (none-some n e)
edge_kind t c kind level stages.Read n f e = absurd (none-some n e)
edge_kind t c kind level stages.Child n f e = absurd (none-some n e)
edge_kind t c kind level stages.Swap n f e = absurd (none-some n e)
edge_kind t c kind level stages.LockChild n f e = absurd (none-some n e)
edge_kind t c kind level stages.LockGroup n f e = absurd (none-some n e)
edge_kind t c kind level stages.SeeChild n f e = absurd (none-some n e)
edge_kind t c kind level stages.SeeGroup n f e = absurd (none-some n e)
edge_kind t c kind level (stages.Scan j) n f e = absurd (none-some n e)
edge_kind t c kind level stages.Store n f e = absurd (none-some n e)
edge_kind t c kind level (stages.First j) n f e = absurd (none-some n e)
edge_kind t c kind level stages.FreeGroup n f e = absurd (none-some n e)
edge_kind t c kind level stages.FreeChild n f e = absurd (none-some n e)
edge_kind t c kind level stages.Finish n f e = absurd (none-some n e)
edge_kind t c kind level stages.Handing n f e = absurd (none-some n e)

pub passed_kind : (t : Shape) (c : ℕ) (kind : WalkKind) (level : ℕ) (st : Stage) (n : ℕ) → FitsStage t c kind level st → n < passed_levels level st → kind ≡ kinds.Activate
passed_kind t c kind level stages.Own n f h = f.0
passed_kind t c kind level stages.Up n f h = f
passed_kind t c kind level (stages.Mark more) n f h = f.0
passed_kind t c kind level stages.Read n f h = absurd (omega arith)
passed_kind t c kind level stages.Child n f h = absurd (omega arith)
passed_kind t c kind level stages.Swap n f h = absurd (omega arith)
passed_kind t c kind level stages.LockChild n f h = absurd (omega arith)
passed_kind t c kind level stages.LockGroup n f h = absurd (omega arith)
passed_kind t c kind level stages.SeeChild n f h = absurd (omega arith)
passed_kind t c kind level stages.SeeGroup n f h = absurd (omega arith)
passed_kind t c kind level (stages.Scan j) n f h = absurd (omega arith)
passed_kind t c kind level stages.Store n f h = absurd (omega arith)
passed_kind t c kind level (stages.First j) n f h = absurd (omega arith)
passed_kind t c kind level stages.FreeGroup n f h = absurd (omega arith)
passed_kind t c kind level stages.FreeChild n f h = absurd (omega arith)
passed_kind t c kind level stages.Finish n f h = absurd (omega arith)
passed_kind t c kind level stages.Handing n f h = absurd (omega arith)

-- an activation has passed all edges below the one at which it stands
pub edge_passed : (level : ℕ) (st : Stage) (n : ℕ) → edge_level level st ≡ Some n → passed_levels level st ≡ n
edge_passed level stages.Own n e = same_Some _ _ e
edge_passed level stages.Up n e = same_Some _ _ e
edge_passed level (stages.Mark true) n e = same_Some _ _ e
edge_passed level (stages.Mark false) n e = absurd (none-some n e)
edge_passed level stages.Read n e = absurd (none-some n e)
edge_passed level stages.Child n e = absurd (none-some n e)
edge_passed level stages.Swap n e = absurd (none-some n e)
edge_passed level stages.LockChild n e = absurd (none-some n e)
edge_passed level stages.LockGroup n e = absurd (none-some n e)
edge_passed level stages.SeeChild n e = absurd (none-some n e)
edge_passed level stages.SeeGroup n e = absurd (none-some n e)
edge_passed level (stages.Scan j) n e = absurd (none-some n e)
edge_passed level stages.Store n e = absurd (none-some n e)
edge_passed level (stages.First j) n e = absurd (none-some n e)
edge_passed level stages.FreeGroup n e = absurd (none-some n e)
edge_passed level stages.FreeChild n e = absurd (none-some n e)
edge_passed level stages.Finish n e = absurd (none-some n e)
edge_passed level stages.Handing n e = absurd (none-some n e)

edge_passed_of : (m : Option Walk) (n : ℕ) → edge_of m ≡ Some n → passed_of m ≡ n
edge_passed_of None n e = absurd (none-some n e)
edge_passed_of (Some k) n e = edge_passed k.level k.stage n e

pub unpacked : (t : Shape) (c : ℕ) (m : Option ℕ) (f : Child) → option_and_then (child_towards t c) m ≡ Some f → (n : ℕ) × (m ≡ Some n) × (child_towards t c n ≡ Some f)
unpacked t c None f e = absurd (none-some f e)
unpacked t c (Some n) f e = (n, refl, e)

-- a group with an active child has a migrator
bit_on : (active : ℕ) (m : Option ℕ) (k : ℕ) → GroupLaw active m → IsActive active k → is_some m ≡ true
bit_on active None k law h = absurd (law k h)
bit_on active (Some m) k law h = refl

module _ (t : Shape) (s : Scene) (fit : WalksFit t s) where
  pub edge_walk : (c n : ℕ) → edge_of (s.walk c) ≡ Some n → (k : Walk) × (s.walk c ≡ Some k) × (k.kind ≡ kinds.Activate)
  edge_walk c n e = by_walk (s.walk c) refl e
    where
      by_walk : (m : Option Walk) → s.walk c ≡ m → edge_of m ≡ Some n → (k : Walk) × (s.walk c ≡ Some k) × (k.kind ≡ kinds.Activate)
      by_walk None is at = absurd (none-some n at)
      by_walk (Some k) is at = (
        k,
        is,
        elim (stage_fits t s fit c k is) [
          | inl f ↦ edge_kind t c k.kind k.level k.stage n f at
          | inr finishing ↦ absurd (none-some n (sym (ap (edge_level k.level) finishing) ∙ at))
        ],
      )

  pub passed_walk : (c n : ℕ) → n < passed_of (s.walk c) → (k : Walk) × (s.walk c ≡ Some k) × (k.kind ≡ kinds.Activate)
  passed_walk c n h = by_walk (s.walk c) refl h
    where
      by_walk : (m : Option Walk) → s.walk c ≡ m → n < passed_of m → (k : Walk) × (s.walk c ≡ Some k) × (k.kind ≡ kinds.Activate)
      by_walk None is low = absurd (omega arith)
      by_walk (Some k) is low = (
        k,
        is,
        elim (stage_fits t s fit c k is) [
          | inl f ↦ passed_kind t c k.kind k.level k.stage n f low
          | inr finishing ↦ let zero_is : passed_levels k.level k.stage ≡ 0 = ap (passed_levels k.level) finishing in absurd (omega (arith, zero_is))
        ],
      )

  -- where CPU c stands
  pub standing : (c : ℕ) (m : Child) → stand t s c ≡ Some m → (n : ℕ) × (edge_of (s.walk c) ≡ Some n) × (child_towards t c n ≡ Some m)
  standing c m e = unpacked t c (edge_of (s.walk c)) m e

  pub all_below : (c n : ℕ) → edge_of (s.walk c) ≡ Some n → passed_of (s.walk c) ≡ n
  all_below c n e = edge_passed_of (s.walk c) n e

  pub stands_there : (c n : ℕ) (m : Child) → edge_of (s.walk c) ≡ Some n → child_towards t c n ≡ Some m → stand t s c ≡ Some m
  stands_there c n m e at = ap (option_and_then (child_towards t c)) e ∙ at

  module _ (h : IsHierarchy t) (groups : GroupsLawful t s) (edges : EdgesHold t s) where
    -- an activation that has passed the edges below a level comes there through an active child
    pub way_on : (c n : ℕ) (m : Child) (k : Walk) → s.walk c ≡ Some k → k.kind ≡ kinds.Activate → n ≤ passed_of (s.walk c) → child_towards t c n ≡ Some m → is_on s m ≡ true
    way_on c zero m k is kind low at = subst (λ f. is_on s f ≡ true) (same_Some _ _ (sym (own_child t c) ∙ at)) (edges.active c k is kind)
    way_on c (suc n) (sorts.Cpu d) k is kind low at = absurd (not_cpu t (group_at_of t c n) d.0 (sym (group_child t c n) ∙ at))
    way_on c (suc n) (sorts.Group g) k is kind low at =
        let here : group_at_of t c n ≡ Some g.0 = mapped t (group_at_of t c n) g.0 (sym (group_child t c n) ∙ at) in
        let lower = h.towards c n g.0 here in
        bit_on (s.group g.0).active (s.group g.0).migrator (bit_of t lower.0) (groups.law g.0)
        (edges.passed c lower.0 g.0 (record { at = n; below = omega arith; child = lower.1; parent = here }))

    -- so each child of an edge that was passed is active
    pub passed_on : (c : ℕ) (m : Child) (g : ℕ) → HasPassed t s c m g → is_on s m ≡ true
    passed_on c m g p = let k = passed_walk c p.at p.below in way_on c p.at m k.0 k.1 k.2 (omega (arith, p.below)) p.child
