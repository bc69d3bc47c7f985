-- for crates above: where the path of a CPU goes, by the laws of trees
use Rattle.std.proofs.Common.{◌≡◌, ℕ, zero, suc, ◌-◌, ◌<◌, true, false, Option, Some, None, ap, sym}
use Rattle.std.proofs.Common.{◌∙◌, subst, arith, inl, inr}
use Rattle.std.specs.Prelude.{option_map, unwrap_or}
use Rattle.std.specs.Option.{option_map_or}
use Rattle.std.proofs.lemmas.Option.{none-some}
use Rattle.tm_base.specs.declared.names.GroupId.{GroupId}
use Rattle.tm_base.specs.Children.{of_cpu, of_group}
use Rattle.tree_plan.specs.Laws.{EdgeLaws, PathLaws}
use Rattle.tree_plan.specs.Shape.{Shape}
use Rattle.tree_plan.specs.Paths.{bit_in, bit_of, child_towards, group_at_of, group_count_of}
use Rattle.tree_plan.specs.Paths.{is_placed_in, parent_of}
use Rattle.core_facts.specs.walk_rules.Hierarchy.{side}
use Rattle.core_state.specs.Kept.{HasLevel}
use Rattle.core_facts.proofs.Leaves.{leaf_or}

-- a group that is read where the path has one
pub on_in_range : (t : Shape) (c l : ℕ) (o : Option GroupId) (r : GroupId) → PathLaws t
    → option_map (λ (g : GroupId). g.0) o ≡ group_at_of t c l → r ≡ unwrap_or o (record { 0 = 0 })
    → HasLevel t c l → r.0 < group_count_of t
on_in_range t c l None r laws read is has = absurd (none-some has.0 (read ∙ has.1))
on_in_range t c l (Some g) r laws read is has =
    subst (λ (x : GroupId). x.0 < group_count_of t) (sym is) (laws.group_within c l g.0 (sym read))

-- a CPU that isn't placed has no number
pub unplaced_bit : (t : Shape) (c : ℕ) → EdgeLaws t → is_placed_in t c ≡ false
    → bit_of t (of_cpu c) ≡ 0
unfolding bit_of bit_in
unplaced_bit t c laws out =
    elim (leaf_or (parent_of t (of_cpu c))) [
      | inr none ↦ ap (bit_in t (of_cpu c)) none
      | inl there ↦ let no : true ≡ false = sym (laws.cpu_placed c there.0 there.1) ∙ out in cc
    ]

pub side_at_leaf : (t : Shape) (c l : ℕ) → l ≡ 0 → side t c l ≡ bit_of t (of_cpu c)
unfolding child_towards
side_at_leaf t c l is = ap (side t c) is

pub side_above : (t : Shape) (c l : ℕ) (o : Option ℕ) → 0 < l → group_at_of t c (l - 1) ≡ o
    → side t c l ≡ option_map_or (λ g. bit_of t (of_group g)) o 0
unfolding child_towards
side_above t c zero o high at = absurd (omega arith)
side_above t c (suc l) None high at =
    let same : suc l - 1 ≡ l = omega arith in
    ap (λ m. option_map_or (bit_of t) (option_map of_group m) 0)
    (ap (group_at_of t c) (sym same) ∙ at)
side_above t c (suc l) (Some g) high at =
    let same : suc l - 1 ≡ l = omega arith in
    ap (λ m. option_map_or (bit_of t) (option_map of_group m) 0)
    (ap (group_at_of t c) (sym same) ∙ at)
