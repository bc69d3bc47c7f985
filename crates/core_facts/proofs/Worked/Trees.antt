-- the tree of one node without isolated CPUs
use Rattle.std.proofs.Common.{◌≡◌, ◌∙◌, ℕ, ◌+◌, ◌*◌, arith, List, [], ◌∷◌, cond, refl, ap}
use Rattle.std.specs.Prelude.{filter, map, not}
use Rattle.std.specs.List.{range_with_len}
use Rattle.std.specs.FinSet.{contains, contains-empty, empty}
use Rattle.std.specs.Ordering.{nat_cmp}
use Rattle.tm_base.specs.Children.{of_cpu}
use Rattle.tree_plan.specs.Shape.{levels_for, levels_from, node_cpus, tree_of}
use Rattle.core_facts.specs.Worked.Rows.{one_node_of}

all_placed : (xs : List ℕ) → filter (λ c. not (contains (empty {R = nat_cmp}) c)) xs ≡ xs
all_placed [] = refl
all_placed (x ∷ xs) = λ i. cond (not (contains-empty nat_cmp x i)) (x ∷ all_placed xs i) (all_placed xs i)

one_node : (cpus : ℕ) → node_cpus 1 cpus empty ≡ map of_cpu (range_with_len 0 cpus) ∷ []
unfolding node_cpus
one_node cpus =
    let none_before : 0 * cpus ≡ 0 = omega arith in
    ap (λ n. map of_cpu (filter (λ c. not (contains (empty {R = nat_cmp}) c)) (range_with_len n cpus)) ∷ []) none_before
    ∙ ap (λ xs. map of_cpu xs ∷ []) (all_placed (range_with_len 0 cpus))

pub tree_is : (cpus : ℕ) → tree_of 1 cpus empty ≡ one_node_of cpus
tree_is cpus = λ i. record {
  nodes = 1;
  cpus = cpus;
  isolated = empty;
  levels = levels_from (levels_for cpus) (levels_for cpus + levels_for 1) 0 0 (one_node cpus i);
}
