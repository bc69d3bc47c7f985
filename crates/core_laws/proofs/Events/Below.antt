-- for crates above: below an inactive group that has an active child stands an activation
use Rattle.std.proofs.Common.{◌≡◌, inl, inr, ℕ, zero, suc, true, false, true≢false, Option, Some, None, refl, sym, ap, ◌∙◌}
use Rattle.std.specs.Prelude.{is_some, option_and_then}
use Rattle.std.specs.Int.{bit_at}
use Rattle.std.proofs.lemmas.Bool.{cases_eq}
use Rattle.group_word.specs.Group.{GroupLaw, IsActive}
use Rattle.tm_base.specs.declared.names.Child.{Child}
use Rattle.tree_plan.specs.Shape.{Shape}
use Rattle.tm_base.specs.Children.{of_group}
use Rattle.tree_plan.specs.Paths.{bit_of, group_at_of, parent_of}
use Rattle.walk_rules.specs.Edges.{StandsBelow}
use Rattle.walk_rules.specs.Hierarchy.{HasGroup, IsHierarchy}
use Rattle.walk_rules.specs.Scene.{Scene, is_on}
use Rattle.core_laws.specs.Walks.Fit.{WalksFit}
use Rattle.core_laws.specs.Edges.Layer.{EdgesFit}
use Rattle.core_laws.proofs.Edges.Facts.{standing}

-- a CPU whose path has a group at some level has a leaf
pub has_leaf : (t : Shape) → IsHierarchy t → (c l g : ℕ) → group_at_of t c l ≡ Some g → HasGroup t c
has_leaf t h c zero g e = (g, e)
has_leaf t h c (suc l) g e = let p = h.lower c l g e in has_leaf t h c l p.0 p.1

law_on : (a : ℕ) (m : Option ℕ) (k : ℕ) → GroupLaw a m → IsActive a k → is_some m ≡ true
law_on a None k law h = absurd (law k h)
law_on a (Some m) k law h = refl

-- B: below an inactive group with an active child stands an activation
pub below_active : (t : Shape) (s : Scene) → IsHierarchy t → WalksFit t s → EdgesFit t s → (m : Child) (x : ℕ) → parent_of t m ≡ Some x → is_on s m ≡ true → is_on s (of_group x) ≡ false → StandsBelow t s x
below_active t s h walks f m x up on off = elim (cases_eq (bit_at (s.group x).active (bit_of t m)) 1) [
  | inl set ↦ absurd (true≢false (sym (law_on _ _ _ (f.groups.law x) set) ∙ off))
  | inr unset ↦
      let d = f.edges.needs m x up on unset in
      let p = standing t s walks d.0 m d.1 in
      (d.0, ap (option_and_then (group_at_of t d.0)) p.1 ∙ (h.onwards d.0 p.0 m p.2 ∙ up))
]
