-- groups within a node and across nodes
use Rattle.std.proofs.Common.{◌≡◌, ℕ, zero, suc, ◌+◌, ◌*◌, ◌/◌, ◌<◌, ◌≤◌, ⊎_elim, List, [], ◌∷◌, length, map, Some, refl, sym, ◌∙◌, ap, subst, arith, zero-add}
use Rattle.std.specs.Prelude.{slice_get, not}
use Rattle.std.specs.List.{range_with_len}
use Rattle.std.specs.FinSet.{contains}
use Rattle.std.proofs.lemmas.Nat.{div-mul-add}
use Rattle.tm_base.specs.declared.names.Child.{Child}
use Rattle.tm_base.specs.Children.{of_cpu, of_group}
use Rattle.std.proofs.lemmas.Option.{same_Some}
use Rattle.tree_plan.specs.Shape.{Shape, IsPlanned, joined, levels_for, levels_from, placed_from, node_cpus}
use Rattle.tree_plan.specs.Paths.{node_of, node_levels_of, groups_of, group_count_of, level_in, level_of, children_of, child_count_of, IsBelow, IsUnder}
use Rattle.tree_plan.specs.Laws.{NodeLaws}
use Rattle.tree_plan.proofs.Gets.{get_within}
use Rattle.tree_plan.proofs.Placed.{from_rank}
use Rattle.tree_plan.proofs.Stacks.{cpus_of_node}
use Rattle.tree_plan.proofs.Trees.{group_at}
use Rattle.tree_plan.proofs.Below.{paths, below_child}
use Rattle.tree_plan.proofs.Rows.{AllIn, RowsOf, Closed, FullOrApart, all_at, rowed, rowed_pairs, full_across}

module _ (t : Shape) (planned : IsPlanned t) where
  -- the CPUs of a child are of this node
  abbrev OfNode : ℕ → Child → Type 0
  OfNode n m = (c : ℕ) → IsUnder t c m → node_of t c ≡ n

  -- of a placed CPU of node n
  cpu_node : (n i c : ℕ) → slice_get (placed_from t.isolated (n * t.cpus) t.cpus) i ≡ Some c → node_of t c ≡ n
  cpu_node n i c at =
      let found = from_rank (λ c. not (contains t.isolated c)) (n * t.cpus) t.cpus i c at in
      ap (λ k. k / t.cpus) found.number ∙ div-mul-add n t.cpus found.offset found.within

  cpus_of : (n : ℕ) (cs : List ℕ) → ((i c : ℕ) → slice_get cs i ≡ Some c → node_of t c ≡ n) → AllIn (OfNode n) (map of_cpu cs)
  cpus_of n [] each = tt
  cpus_of n (c ∷ cs) each = (λ d under. ap (node_of t) under ∙ each 0 c refl, cpus_of n cs (λ i d at. each (suc i) d at))

  nodes_from : (n k : ℕ) → RowsOf OfNode n (map (cpus_of_node t.isolated t.cpus) (range_with_len n k))
  nodes_from n zero = tt
  nodes_from n (suc k) =
      let on : n + 1 ≡ suc n = omega arith in (
        cpus_of n (placed_from t.isolated (n * t.cpus) t.cpus) (cpu_node n),
        subst (λ m. RowsOf OfNode m (map (cpus_of_node t.isolated t.cpus) (range_with_len (n + 1) k))) on (nodes_from (n + 1) k),
      )

  rows_apart : RowsOf OfNode 0 (node_cpus t.nodes t.cpus t.isolated)
  unfolding node_cpus
  rows_apart = nodes_from 0 t.nodes

  -- the CPUs of a group are those of its children
  all_closed : Closed OfNode 0 (groups_of t)
  all_closed n g run at all c on =
      let inside = get_within (groups_of t) g run at in
      let below : IsBelow t c g = subst (λ h. IsBelow t c h) (zero-add g) on in
      let child = below_child t planned c g below in
      let in_run : slice_get run child.0 ≡ Some child.1 = ap (λ ms. slice_get ms child.0) (run_is g run at) ∙ child.2 in
      all_at (OfNode n) run child.0 child.1 all in_run c child.3
    where
      run_is : (g : ℕ) (run : List Child) → slice_get (groups_of t) g ≡ Some run → run ≡ children_of t g
      run_is g run at = sym (same_Some _ _ (sym (group_at t planned g (get_within (groups_of t) g run at)) ∙ at))

  -- what holds of the levels that were cut holds of the tree's
  abbrev cut_levels : List (List (List Child))
  cut_levels = levels_from (levels_for t.cpus) (levels_for t.cpus + levels_for t.nodes) 0 0 (node_cpus t.nodes t.cpus t.isolated)

  same_levels : cut_levels ≡ t.levels
  same_levels = sym (ap (λ (s : Shape). s.levels) planned.tree)

  closed_cut : Closed OfNode 0 (joined cut_levels)
  unfolding groups_of
  closed_cut = subst (λ levels. Closed OfNode 0 (joined levels)) (sym same_levels) all_closed

  -- a group below the levels across nodes is of one node
  of_one : (g : ℕ) → g < group_count_of t → level_of t g < node_levels_of t → (n : ℕ) × OfNode n (of_group g)
  unfolding groups_of
  of_one g inside low =
      let found = subst (λ levels. g < length (joined levels) → level_in levels g < levels_for t.cpus → (n : ℕ) × OfNode n (of_group (0 + g))) same_levels
      (rowed OfNode (levels_for t.cpus) (levels_for t.cpus) (levels_for t.cpus + levels_for t.nodes) 0 0 (node_cpus t.nodes t.cpus t.isolated) (omega arith) rows_apart closed_cut g) inside low in
      (found.0, subst (λ h. OfNode found.0 (of_group h)) (zero-add g) found.1)

  of_two : (g h : ℕ) → g < h → h < group_count_of t → level_of t g ≡ level_of t h → level_of t g < node_levels_of t →
      FullOrApart OfNode g h (children_of t g)
  unfolding groups_of
  of_two g h before inside same low =
      let here : slice_get (joined t.levels) g ≡ Some (children_of t g) = group_at t planned g (omega arith) in
      let found = subst (λ levels. slice_get (joined levels) g ≡ Some (children_of t g) → h < length (joined levels) → level_in levels g ≡ level_in levels h → level_in levels g < levels_for t.cpus → FullOrApart OfNode (0 + g) (0 + h) (children_of t g)) same_levels
      (λ at within. rowed_pairs OfNode (levels_for t.cpus) (levels_for t.cpus) (levels_for t.cpus + levels_for t.nodes) 0 0 (node_cpus t.nodes t.cpus t.isolated) (omega arith) rows_apart closed_cut g h (children_of t g) at before within) here inside same low in
      subst (λ b. FullOrApart OfNode g b (children_of t g)) (zero-add h) (subst (λ a. FullOrApart OfNode a (0 + h) (children_of t g)) (zero-add g) found)

  full_high : (g h : ℕ) → g < h → h < group_count_of t → level_of t g ≡ level_of t h → node_levels_of t ≤ level_of t g →
      child_count_of t g ≡ 8
  unfolding groups_of
  full_high g h before inside same high =
      let here : slice_get (joined t.levels) g ≡ Some (children_of t g) = group_at t planned g (omega arith) in
      subst (λ levels. slice_get (joined levels) g ≡ Some (children_of t g) → h < length (joined levels) → level_in levels g ≡ level_in levels h → levels_for t.cpus ≤ 0 + level_in levels g → length (children_of t g) ≡ 8) same_levels
      (λ at within. full_across (levels_for t.cpus) (levels_for t.cpus + levels_for t.nodes) 0 0 (node_cpus t.nodes t.cpus t.isolated) g h (children_of t g) at before within) here inside same (omega arith)

  there : (c g : ℕ) → IsBelow t c g → g < group_count_of t
  there c g on = (paths t planned).group_within c on.0 g on.1

  pub node_laws : NodeLaws t
  node_laws = record {
    one_node = λ c d g low on on'.
        let n = of_one g (there c g on) low in
        n.1 c on ∙ sym (n.1 d on');
    full_in_node = λ c d g h low same before on on' one.
        ⊎_elim (λ full. full) (λ two. absurd (omega (arith, two.2, two.3 c on, two.4 d on', one))) (of_two g h before (there d h on') same low);
    full_across = λ g h high same before inside. full_high g h before inside same high;
  }
