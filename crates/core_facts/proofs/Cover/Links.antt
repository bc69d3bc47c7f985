-- a child stands in its parent, in whatever tree
use Rattle.std.proofs.Common.{◌≡◌, ℕ, ◌<◌, true, List, [], ◌∷◌, Some, sym, ap, ◌∙◌, inl, inr}
use Rattle.std.specs.Prelude.{find}
use Rattle.std.specs.List.{list_any, position_or_len}
use Rattle.std.proofs.lemmas.Bool.{cases_Bool, cond-false, cond-true, eqb-true, or_cases}
use Rattle.std.proofs.lemmas.Bool.{false≢true, true≢false}
use Rattle.std.proofs.lemmas.List.Folds.{find_at}
use Rattle.std.proofs.lemmas.List.Quantifiers.{position-Some}
use Rattle.tm_base.specs.declared.names.Child.{Child}
use Rattle.tm_base.specs.declared.names.Child.TheVariants.{Cpu, Group}
use Rattle.tm_base.specs.Children.{of_cpu, of_group, same_child}
use Rattle.tree_plan.specs.Shape.{Shape}
use Rattle.tree_plan.specs.Paths.{bit_in, bit_of, child_at, children_of, group_count_of, groups_of}
use Rattle.tree_plan.specs.Paths.{parent_of}

same : (m x : Child) → same_child m x ≡ true → m ≡ x
unfolding same_child
same (Cpu c) (Cpu d) e = ap of_cpu (eqb-true c.0 d.0 e)
same (Cpu c) (Group g) e = absurd (false≢true e)
same (Group g) (Cpu c) e = absurd (false≢true e)
same (Group g) (Group h) e = ap of_group (eqb-true g.0 h.0 e)

found : (m : Child) (children : List Child) → list_any (same_child m) children ≡ true →
    find (same_child m) children ≡ Some m
found m [] e = absurd (false≢true e)
found m (x ∷ children) e = elim (cases_Bool (same_child m x)) [
  | inl here ↦ cond-true (same_child m x) (Some x) (find (same_child m) children) here
      ∙ ap Some (sym (same m x here))
  | inr other ↦ cond-false (same_child m x) (Some x) (find (same_child m) children) other
      ∙ elim (or_cases (same_child m x) (list_any (same_child m) children) e) [
        | inl here ↦ absurd (true≢false (sym here ∙ other))
        | inr rest ↦ found m children rest
      ]
]

module _ (t : Shape) (m : Child) (g : ℕ) (parent : parent_of t m ≡ Some g) where
  -- a parent is a group of the tree
  pub parent_within : g < group_count_of t
  unfolding parent_of
  parent_within = (position-Some (λ children. list_any (same_child m) children)
      (groups_of t) g [] parent).0

  has : list_any (same_child m) (children_of t g) ≡ true
  unfolding parent_of children_of
  has = (position-Some (λ children. list_any (same_child m) children) (groups_of t) g [] parent).1

  bit : bit_of t m ≡ position_or_len (same_child m) (children_of t g)
  unfolding bit_of bit_in
  bit = ap (bit_in t m) parent

  -- and has the child at its child number
  pub child_there : child_at t g (bit_of t m) ≡ Some m
  child_there = ap (child_at t g) bit ∙ (sym (find_at (same_child m) (children_of t g))
      ∙ found m (children_of t g) has)
