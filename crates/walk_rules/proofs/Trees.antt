-- what walks rely on, from the laws of trees
use Rattle.std.proofs.Common.{◌≡◌, ℕ, suc, Option, Some, None, refl, sym, ap, ◌∙◌, inl, inr, arith}
use Rattle.std.specs.Prelude.{option_and_then}
use Rattle.std.proofs.lemmas.Bool.{cases_lt}
use Rattle.std.proofs.lemmas.Option.{none-some, same_Some}
use Rattle.tree_plan.specs.Laws.{EdgeLaws, PathLaws}
use Rattle.tree_plan.specs.Shape.{Shape}
use Rattle.tm_base.specs.Children.{of_group}
use Rattle.tree_plan.specs.Paths.{child_at, group_at_of, group_count_of, parent_of}
use Rattle.walk_rules.specs.Hierarchy.{IsHierarchy}

under : {A : Type 0} (f : A → Option ℕ) (m : Option A) (p : ℕ) → option_and_then f m ≡ Some p → (g : A) × (m ≡ Some g)
under f None p e = absurd (none-some p e)
under f (Some g) p e = (g, refl)

module _ (t : Shape) (edges : EdgeLaws t) (paths : PathLaws t) where
  lower : (c l p : ℕ) → group_at_of t c (suc l) ≡ Some p → (g : ℕ) × (group_at_of t c l ≡ Some g)
  unfolding group_at_of
  lower c l p e = under (λ g. parent_of t (of_group g)) (group_at_of t c l) p e

  -- where a path ends is the last group
  last : (c l g : ℕ) → group_at_of t c l ≡ Some g → group_at_of t c (suc l) ≡ None → suc g ≡ group_count_of t
  last c l g e end = elim (cases_lt (suc g) (group_count_of t)) [
    | inl low ↦ let p = edges.group_parent g low in absurd (none-some p.0 (sym end ∙ (paths.climb c l g e ∙ p.1)))
    | inr high ↦ let within = paths.group_within c l g e in omega (arith, within, high)
  ]

  pub hierarchy : IsHierarchy t
  hierarchy = record {
    towards = λ c l g e. (let p = paths.towards c l g e in (p.0, p.1));
    onwards = paths.onwards;
    lower = lower;
    apart = λ m n g up up' bit. same_Some _ _ (sym (edges.child g m up) ∙ (ap (child_at t g) bit ∙ edges.child g n up'));
    eight = edges.bit_below_8;
    within = paths.group_within;
    one_level = λ c d l n g e e'. sym (paths.level c l g e) ∙ paths.level d n g e';
    placed = λ c p some. paths.there c 0 p some;
    has_group = λ c g e. paths.cpu_placed c 0 g e;
    one_top = λ c d l n g h e end e' end'.
        (let a = last c l g e end in
        let b = last d n h e' end' in omega (arith, a, b));
  }
