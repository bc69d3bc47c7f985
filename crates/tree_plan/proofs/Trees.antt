-- for crates above: the laws of planned trees on children, parents and levels
use Rattle.std.proofs.Common.{◌≡◌, ℕ, suc, ◌+◌, ◌-◌, ◌^◌, ◌<◌, ◌≤◌, ◌⊎◌, inl, inr, ⊎_elim, Bool, true, false, eqb, List, [], ◌∷◌, ◌++◌, length, map, refl, sym, ◌∙◌, ap, subst, arith, zero-add, length-append}
use Rattle.std.specs.Prelude.{◌↔◌, Option, Some, None, not, slice_get}
use Rattle.std.specs.List.{range_with_len}
use Rattle.std.proofs.lemmas.Bool.{cases_lt, cases_eq, cond-true, cond-false, eq-eqb, ne_eqb, not-true, not_from_false}
use Rattle.std.proofs.lemmas.List.FromFn.{length-range_with_len}
use Rattle.std.proofs.lemmas.Option.{none-some, same_Some, slice_get-get_or, get_or_from_slice_get}
use Rattle.std.specs.FinSet.{contains}
use Rattle.tm_base.specs.declared.names.Child.{Child}
use Rattle.tm_base.specs.declared.names.Child.TheVariants.{Cpu, Group}
use Rattle.tm_base.specs.Children.{of_cpu, of_group}
use Rattle.tree_plan.specs.Shape.{Shape, IsPlanned, joined, levels_for, node_cpus}
use Rattle.tree_plan.specs.Paths.{cpu_count_of, is_placed_in, placed_of, group_count_of, level_count_of, groups_of, level_of, children_of, child_count_of, child_at, parent_of, bit_in, bit_of, top_of, IsTop}
use Rattle.tree_plan.specs.Laws.{CutLaws, EdgeLaws, LevelLaws}
use Rattle.std.proofs.lemmas.List.{get_or_past, length-map}
use Rattle.tree_plan.proofs.Cuts.{IsRun, run_at}
use Rattle.tree_plan.proofs.Gets.{get_either, get_within, get_some, get_range, from_range, get_left, get_right, get_map, from_map}
use Rattle.tree_plan.proofs.Placed.{Ranked, rank_in, at_rank, from_rank, placed_parts, is_placed}
use Rattle.tree_plan.proofs.Seats.{Distinct, found_group, found_bit, found_has, seat_of, index_of, distinct_from}
use Rattle.tree_plan.proofs.Stacks.{IsStack, group_range, length-group_range, cpus_of_node, tree_stack, all_members, level_below, highest_level, child_level, all_runs, levels_within, same_place, at_most_weaker, at_most_nodes}
use Rattle.tree_plan.proofs.Counts.{groups_within}
use Rattle.tree_plan.proofs.Powers.{levels_of_node, levels_of_few, levels_reach}

-- the placed CPUs of a tree in ascending order
abbrev pub all_cpus : Shape → List Child
all_cpus t = map of_cpu (placed_of t)

-- whether a CPU isn't isolated
abbrev pub free_in : Shape → ℕ → Bool
free_in t c = not (contains t.isolated c)

-- a placed CPU stands among the placed ones
pub placed_there : (t : Shape) (c : ℕ) → c < cpu_count_of t → contains t.isolated c ≡ false →
    slice_get (placed_of t) (rank_in (free_in t) 0 c) ≡ Some c
placed_there t c inside free =
    let zero_on : 0 + c ≡ c = zero-add c in
    at_rank (free_in t) 0 (cpu_count_of t) c inside (ap (free_in t) zero_on ∙ not_from_false (contains t.isolated c) free) ∙ ap Some zero_on

pub some_cpus : (t : Shape) → IsPlanned t → 1 ≤ length (placed_of t)
some_cpus t planned =
    let one = planned.limits.some_placed in
    omega (arith, get_within (placed_of t) (rank_in (free_in t) 0 one.0) one.0 (placed_there t one.0 one.1 one.2))

pub planned_stack : (t : Shape) → IsPlanned t → IsStack 0 (all_cpus t) t.levels
planned_stack t planned =
    subst (λ (s : Shape). IsStack 0 (all_cpus t) s.levels) (sym planned.tree) (tree_stack t.nodes t.cpus t.isolated (some_cpus t planned))

no_levels : (first : ℕ) (ms : List Child) (levels : List (List (List Child))) → IsStack first ms levels →
    length ms ≡ 1 → levels ≡ []
no_levels first ms [] h one = refl
no_levels first ms (level ∷ above) h one = absurd (omega (arith, h.0.more))

some_level : (first : ℕ) (ms : List Child) (levels : List (List (List Child))) → IsStack first ms levels →
    1 < length ms → 0 < length levels
some_level first ms [] h more = absurd (omega arith)
some_level first ms (level ∷ above) h more = omega arith

-- the index of a child among all children
unfoldable pub rank : Shape → Child → ℕ
rank t (Cpu c) = rank_in (free_in t) 0 c.0
rank t (Group g) = length (placed_of t) + g.0

-- the number in a child
abbrev number : Child → ℕ
number (Cpu c) = c.0
number (Group g) = g.0

same_cpu : (c d : ℕ) → of_cpu c ≡ of_cpu d → c ≡ d
same_cpu c d e = ap number e

same_group : (g h : ℕ) → of_group g ≡ of_group h → g ≡ h
same_group g h e = ap number e

cpu_no_group : (c g : ℕ) → of_cpu c ≡ of_group g → ⊥
cpu_no_group c g e = cc

module _ (t : Shape) (planned : IsPlanned t) where
  cpu_total : length (all_cpus t) ≡ length (placed_of t)
  cpu_total = length-map (placed_of t) of_cpu

  pub alone : length (placed_of t) ≡ 1 → t.levels ≡ []
  alone one = no_levels 0 (all_cpus t) t.levels (planned_stack t planned) (cpu_total ∙ one)

  pub grouped : 1 < length (placed_of t) → 0 < level_count_of t
  grouped more = some_level 0 (all_cpus t) t.levels (planned_stack t planned) (omega (arith, cpu_total))

  all_children : 1 < length (placed_of t) →
      (1 ≤ group_count_of t) × (joined (groups_of t) ≡ all_cpus t ++ group_range 0 (group_count_of t - 1))
  unfolding groups_of
  all_children more = all_members 0 (all_cpus t) t.levels (planned_stack t planned) (omega (arith, cpu_total))

  -- where a child stands among all children
  pub ranked : (i : ℕ) (m : Child) → slice_get (joined (groups_of t)) i ≡ Some m →
      ((c : ℕ) × (m ≡ of_cpu c) × Ranked (free_in t) 0 (cpu_count_of t) i c) ⊎ ((g : ℕ) × (m ≡ of_group g) × (i ≡ length (placed_of t) + g) × (suc g < group_count_of t))
  unfolding groups_of
  ranked i m e =
      ⊎_elim (λ more.
      ⊎_elim (λ low.
      let cpu = from_map of_cpu (placed_of t) i m low in
      inl (cpu.0, cpu.2, from_rank (free_in t) 0 (cpu_count_of t) i cpu.0 cpu.1))
      (λ high.
      let group = from_range of_group 0 (group_count_of t - 1) high.0 m high.2 in
      inr (high.0, group.1 ∙ ap of_group (zero-add high.0), omega (arith, high.1, cpu_total), omega (arith, group.0)))
      (get_either (all_cpus t) (group_range 0 (group_count_of t - 1)) i m (subst (λ ms. slice_get ms i ≡ Some m) (all_children more).1 e)))
      (λ few. absurd (none-some m (ap (λ levels. slice_get (joined (joined levels)) i) (sym (alone (omega (arith, some_cpus t planned)))) ∙ e)))
      (cases_lt 1 (length (placed_of t)))

  pub rank_is : (i : ℕ) (m : Child) → slice_get (joined (groups_of t)) i ≡ Some m → i ≡ rank t m
  unfolding rank
  rank_is i m e =
      ⊎_elim (λ cpu. cpu.2.rank ∙ (ap (rank_in (free_in t) 0) (sym (cpu.2.number ∙ zero-add cpu.2.offset)) ∙ ap (rank t) (sym cpu.1))) (λ group. group.2 ∙ ap (rank t) (sym group.1)) (ranked i m e)

  -- a child stands in one place
  pub apart : Distinct (groups_of t)
  apart = distinct_from (groups_of t) (λ i j m one two. rank_is i m one ∙ sym (rank_is j m two))

  -- more placed CPUs than one where there is a group
  pub more_cpus : 0 < group_count_of t → 1 < length (placed_of t)
  unfolding groups_of
  more_cpus some =
      ⊎_elim (λ more. more) (λ few. absurd (omega (arith, some, ap (λ levels. length (joined levels)) (alone (omega (arith, some_cpus t planned)))))) (cases_lt 1 (length (placed_of t)))

  pub cpu_there : (c : ℕ) → 1 < length (placed_of t) → is_placed_in t c ≡ true →
      slice_get (joined (groups_of t)) (rank t (of_cpu c)) ≡ Some (of_cpu c)
  unfolding rank
  cpu_there c more placed =
      let parts = placed_parts t c placed in
      ap (λ ms. slice_get ms (rank t (of_cpu c))) (all_children more).1
      ∙ get_left (all_cpus t) (group_range 0 (group_count_of t - 1)) (rank t (of_cpu c)) (of_cpu c) (get_map of_cpu (placed_of t) (rank t (of_cpu c)) c (placed_there t c parts.0 parts.1))

  pub group_there : (g : ℕ) → suc g < group_count_of t →
      slice_get (joined (groups_of t)) (length (placed_of t) + g) ≡ Some (of_group g)
  group_there g inside =
      let cpus = all_cpus t in
      (λ i. slice_get ((all_children (more_cpus (omega arith))).1 i) (sym cpu_total i + g))
      ∙ (get_right cpus (group_range 0 (group_count_of t - 1)) g ∙ (get_range of_group 0 (group_count_of t - 1) g (omega arith) ∙ ap (λ n. Some (of_group n)) (zero-add g)))

  -- all children of all groups
  pub child_total : 0 < group_count_of t → length (joined (groups_of t)) ≡ length (placed_of t) + (group_count_of t - 1)
  child_total some =
      ap length (all_children (more_cpus some)).1
      ∙ (length-append (all_cpus t) (group_range 0 (group_count_of t - 1)) ∙ (λ i. cpu_total i + length-group_range 0 (group_count_of t - 1) i))

  -- ---- children

  pub group_at : (p : ℕ) → p < group_count_of t → slice_get (groups_of t) p ≡ Some (children_of t p)
  unfolding children_of
  group_at p inside = slice_get-get_or (groups_of t) p [] inside

  no_group : (p : ℕ) → group_count_of t ≤ p → children_of t p ≡ []
  unfolding children_of
  no_group p outside = get_or_past (groups_of t) p [] outside

  -- a group that has a child is one
  pub group_of_child : (p k : ℕ) (m : Child) → child_at t p k ≡ Some m → p < group_count_of t
  group_of_child p k m e =
      ⊎_elim (λ inside. inside) (λ outside. absurd (none-some m (ap (λ ms. slice_get ms k) (sym (no_group p outside)) ∙ e))) (cases_lt p (group_count_of t))

  pub run_of : (p : ℕ) → p < group_count_of t → IsRun (children_of t p)
  unfolding groups_of
  run_of p inside =
      run_at (groups_of t) p (children_of t p) (all_runs 0 (all_cpus t) t.levels (planned_stack t planned)) (group_at p inside)

  pub at_most_8 : (p : ℕ) → child_count_of t p ≤ 8
  at_most_8 p =
      ⊎_elim (λ inside. (run_of p inside).few) (λ outside. omega (arith, ap length (no_group p outside))) (cases_lt p (group_count_of t))

  -- ---- parents and child numbers

  pub parent_is : (p k : ℕ) (m : Child) → child_at t p k ≡ Some m → parent_of t m ≡ Some p
  unfolding parent_of
  parent_is p k m e = found_group (groups_of t) apart p k m (children_of t p) (group_at p (group_of_child p k m e)) e

  pub bit_is : (p k : ℕ) (m : Child) → child_at t p k ≡ Some m → bit_of t m ≡ k
  unfolding bit_of bit_in
  bit_is p k m e =
      ap (bit_in t m) (parent_is p k m e) ∙ found_bit (groups_of t) apart p k m (children_of t p) (group_at p (group_of_child p k m e)) e

  -- a parent has the child somewhere
  pub has_child : (p : ℕ) (m : Child) → parent_of t m ≡ Some p →
      (p < group_count_of t) × ((k : ℕ) × (child_at t p k ≡ Some m))
  unfolding parent_of children_of
  has_child p m e =
      let found = found_has (groups_of t) p m e in
      (get_within (groups_of t) p found.0 found.2, (found.1, ap (λ ms. slice_get ms found.1) (get_or_from_slice_get (groups_of t) p found.0 [] found.2) ∙ found.3))

  pub child_is : (p : ℕ) (m : Child) → parent_of t m ≡ Some p → child_at t p (bit_of t m) ≡ Some m
  child_is p m e =
      let found = (has_child p m e).1 in
      ap (child_at t p) (bit_is p found.0 m found.1) ∙ found.1

  no_bit : (m : Child) → parent_of t m ≡ None → bit_of t m ≡ 0
  unfolding bit_of bit_in
  no_bit m e = ap (bit_in t m) e

  bit_within : (p : ℕ) (m : Child) → parent_of t m ≡ Some p → bit_of t m < child_count_of t p
  bit_within p m e = get_within (children_of t p) (bit_of t m) m (child_is p m e)

  bit_below_8 : (m : Child) → bit_of t m < 8
  bit_below_8 m = by_parent (parent_of t m) refl
    where
      by_parent : (o : Option ℕ) → parent_of t m ≡ o → bit_of t m < 8
      by_parent None e = omega (arith, no_bit m e)
      by_parent (Some p) e = omega (arith, bit_within p m e, at_most_8 p)

  -- a child of a group stands somewhere among all children
  child_rank : (p : ℕ) (m : Child) → parent_of t m ≡ Some p → (i : ℕ) × (slice_get (joined (groups_of t)) i ≡ Some m)
  child_rank p m e =
      let found = has_child p m e in
      let at = index_of 0 (groups_of t) p found.1.0 m (children_of t p) (group_at p found.0) found.1.1 in
      (at.index, at.child)

  -- what stands among all children has a parent
  seated : (i : ℕ) (m : Child) → slice_get (joined (groups_of t)) i ≡ Some m → (p : ℕ) × (parent_of t m ≡ Some p)
  unfolding parent_of
  seated i m e =
      let seat = seat_of 0 (groups_of t) i m e in
      (seat.group, found_group (groups_of t) apart seat.group seat.bit m seat.run seat.in_group seat.at_bit)

  pub cpu_placed : (c g : ℕ) → parent_of t (of_cpu c) ≡ Some g → is_placed_in t c ≡ true
  cpu_placed c g e =
      let at = child_rank g (of_cpu c) e in
      ⊎_elim (λ cpu.
      let same : cpu.0 ≡ c = sym (same_cpu c cpu.0 cpu.1) in
      let free = not-true (contains t.isolated cpu.0) cpu.2.passes in
      is_placed t c (omega (arith, same, cpu.2.number, cpu.2.within)) (ap (contains t.isolated) (sym same) ∙ free))
      (λ group. absurd (cpu_no_group c group.0 group.1)) (ranked at.0 (of_cpu c) at.1)

  group_within : (g p : ℕ) → parent_of t (of_group g) ≡ Some p → suc g < group_count_of t
  group_within g p e =
      let at = child_rank p (of_group g) e in
      ⊎_elim (λ cpu. absurd (cpu_no_group cpu.0 g (sym cpu.1))) (λ group. omega (arith, same_group g group.0 group.1, group.3)) (ranked at.0 (of_group g) at.1)

  -- more placed CPUs than one where there is a level
  pub level_cpus : 0 < level_count_of t → 1 < length (placed_of t)
  level_cpus some =
      ⊎_elim (λ more. more) (λ few. absurd (omega (arith, some, ap length (alone (omega (arith, some_cpus t planned)))))) (cases_lt 1 (length (placed_of t)))

  top_parent : (g : ℕ) → suc g ≡ group_count_of t → parent_of t (of_group g) ≡ None
  top_parent g last = by_parent (parent_of t (of_group g)) refl
    where
      by_parent : (o : Option ℕ) → parent_of t (of_group g) ≡ o → o ≡ None
      by_parent None e = refl
      by_parent (Some p) e = absurd (omega (arith, last, group_within g p e))

  top_is : (g : ℕ) → (top_of t ≡ Some g) ↔ IsTop t g
  top_is g =
      ⊎_elim (λ none.
      let no_top : top_of t ≡ None = cond-true (eqb (group_count_of t) 0) None (Some (group_count_of t - 1)) (eq-eqb _ _ none) in
      (λ e. absurd (none-some g (sym no_top ∙ e)), λ last. absurd (omega (arith, none, last))))
      (λ some.
      let a_top : top_of t ≡ Some (group_count_of t - 1) = cond-false (eqb (group_count_of t) 0) None (Some (group_count_of t - 1)) (ne_eqb _ _ some) in
      let count : suc (group_count_of t - 1) ≡ group_count_of t = omega (arith, some) in
      (λ e. ap suc (sym (same_Some _ _ (sym a_top ∙ e))) ∙ count, λ last. a_top ∙ ap Some (omega (arith, last, count))))
      (cases_eq (group_count_of t) 0)

  pub edge_laws : EdgeLaws t
  edge_laws = record {
    parent = parent_is;
    bit = bit_is;
    child = child_is;
    bit_within = bit_within;
    bit_below_8 = bit_below_8;
    some_at = λ p k inside. get_some (children_of t p) k inside;
    cpu_parent = λ c placed some. seated (rank t (of_cpu c)) (of_cpu c) (cpu_there c (level_cpus some) placed);
    group_parent = λ g inside. seated (length (placed_of t) + g) (of_group g) (group_there g inside);
    top_parent = top_parent;
    top = top_is;
    cpu_placed = cpu_placed;
    group_within = group_within;
    parent_within = λ p m e. (has_child p m e).0;
  }

  -- ---- levels

  level_leaf : (c g : ℕ) → parent_of t (of_cpu c) ≡ Some g → level_of t g ≡ 0
  unfolding groups_of
  level_leaf c g e =
      let found = has_child g (of_cpu c) e in
      ⊎_elim (λ low. low.0) (λ high. absurd (cpu_no_group c (0 + high.0) high.1))
      (child_level 0 (all_cpus t) t.levels (planned_stack t planned) g found.1.0 (of_cpu c) (children_of t g) (group_at g found.0) found.1.1)

  level_up : (g p : ℕ) → parent_of t (of_group g) ≡ Some p → (g < p) × (level_of t p ≡ suc (level_of t g))
  unfolding groups_of
  level_up g p e =
      let found = has_child p (of_group g) e in
      ⊎_elim (λ low.
      let cpu = from_map of_cpu (placed_of t) low.1.0 (of_group g) low.1.1 in
      absurd (cpu_no_group cpu.0 g (sym cpu.2)))
      (λ high.
      let same : high.0 ≡ g = omega (arith, same_group g (0 + high.0) high.1) in
      (omega (arith, high.2), high.3 ∙ ap (λ h. suc (level_of t h)) same))
      (child_level 0 (all_cpus t) t.levels (planned_stack t planned) p found.1.0 (of_group g) (children_of t p) (group_at p found.0) found.1.1)

  pub level_laws : LevelLaws t
  unfolding groups_of
  level_laws = record {
    leaf = level_leaf;
    parent = λ g p e. (level_up g p e).1;
    rising = λ g p e. (level_up g p e).0;
    named = λ g h. same_place t.levels g h;
    within = λ g inside. level_below t.levels g inside;
    highest = λ g inside. highest_level 0 (all_cpus t) t.levels (planned_stack t planned) g inside;
  }

  -- ---- what the groups are made of

  levels_few : level_count_of t ≤ 3
  levels_few =
      let inner = levels_for t.cpus in
      let outer = levels_for t.nodes in
      omega (arith, ap (λ (s : Shape). length s.levels) planned.tree, levels_within inner (inner + outer) 0 0 (node_cpus t.nodes t.cpus t.isolated), levels_of_node t.cpus planned.limits.few_cpus, levels_of_few t.nodes planned.limits.few_nodes)

  groups_few : group_count_of t ≤ 73
  unfolding groups_of node_cpus
  groups_few =
      let inner = levels_for t.cpus in
      let nodes : length (node_cpus t.nodes t.cpus t.isolated) ≡ t.nodes =
      length-map (range_with_len 0 t.nodes) (cpus_of_node t.isolated t.cpus) ∙ length-range_with_len 0 t.nodes in
      omega (
        arith,
        ap (λ (s : Shape). length (joined s.levels)) planned.tree,
        groups_within inner (levels_for t.nodes) (node_cpus t.nodes t.cpus t.isolated) (levels_of_node t.cpus planned.limits.few_cpus) (levels_of_few t.nodes planned.limits.few_nodes)
            (at_most_weaker t.cpus (8 ^ inner) (node_cpus t.nodes t.cpus t.isolated) (levels_reach t.cpus) (at_most_nodes t.isolated t.cpus (range_with_len 0 t.nodes)))
            (omega (arith, nodes, levels_reach t.nodes)) (omega (arith, nodes, planned.limits.few_nodes)),
      )

  pub cut_laws : CutLaws t
  cut_laws = record {
    some_group = λ some. (all_children (level_cpus some)).0;
    members = λ some. (all_children (level_cpus some)).1;
    some_child = λ g inside. (run_of g inside).some;
    at_most_8 = at_most_8;
    at_most_3_levels = levels_few;
    at_most_73_groups = groups_few;
  }
