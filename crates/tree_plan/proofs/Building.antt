-- the groups that the code makes, level by level, are those of the tree
use Rattle.std.proofs.Common.{◌≡◌, ℕ, zero, suc, ◌+◌, ◌-◌, ◌*◌, ◌<◌, ◌≤◌, cond, eqb, List, [], ◌∷◌, ◌++◌, length, map, refl, sym, ◌∙◌, ap, arith, append_assoc, ltb, ◌⊎◌, ⊎_elim, add-one, ◌≢◌}
use Rattle.std.proofs.lemmas.Bool.{cond_both, ne_eqb, eq-eqb, cond-true, cond-false}
use Rattle.std.specs.Prelude.{flat_map, sum}
use Rattle.std.specs.List.{range_with_len}
use Rattle.std.proofs.Math.Nat.{suc-mul}
use Rattle.std.proofs.lemmas.List.{append-nil, length-map, map-append}
use Rattle.std.proofs.lemmas.List.FromFn.{length-range_with_len, map-range_with_len_more}
use Rattle.std.proofs.lemmas.List.Sums.{sum_by-cons}
use Rattle.tree_plan.specs.declared.cutting.Group.{Group}
use Rattle.tm_base.specs.declared.names.Child.{Child}
use Rattle.tm_base.specs.declared.limits.TheConstants.{MOST_CPUS_V2}
use Rattle.tm_base.specs.Children.{of_cpu}
use Rattle.tm_base.specs.CpuSet.{Cpus}
use Rattle.tree_plan.specs.Shape.{IsWithinLimits, levels_for, levels_from, rows_at, numbered, cut, joined, placed_from, node_cpus, tree_of}
use Rattle.tree_plan.specs.Store.{groups_for, run_lengths, row_lengths_at, lengths, listed, listed_levels}
use Rattle.tree_plan.proofs.Placed.{few_placed}
use Rattle.tree_plan.proofs.Cuts.{length-joined, lengths-level, lengths-cuts, lengths-numbered, lengths-rows_at, map-cond}

-- the lengths of the groups of level l and of the levels above it, where the nodes have so many members
unfoldable pub lengths_from : (inner n l : ℕ) → List ℕ → List (List ℕ)
lengths_from inner zero l rows = []
lengths_from inner (suc n) l rows =
    cond (eqb (sum rows) 1) [] (flat_map run_lengths (row_lengths_at inner l rows) ∷ lengths_from inner n (suc l) (map groups_for (row_lengths_at inner l rows)))

pub lengths-levels_from : (inner n l first : ℕ) (rows : List (List Child)) →
    lengths (levels_from inner n l first rows) ≡ lengths_from inner n l (map length rows)
unfolding levels_from lengths_from
lengths-levels_from inner zero l first rows = refl
lengths-levels_from inner (suc n) l first rows =
    let cutting = rows_at inner l rows in
    let level = joined (map cut cutting) in
    let members = numbered first (map cut cutting) in
    let above = levels_from inner n (suc l) (first + length level) members in
    let here : map length level ≡ flat_map run_lengths (row_lengths_at inner l (map length rows)) =
    lengths-level cutting ∙ ap (flat_map run_lengths) (lengths-rows_at inner l rows) in
    let next : map length members ≡ map groups_for (row_lengths_at inner l (map length rows)) =
    lengths-numbered first (map cut cutting) ∙ (lengths-cuts cutting ∙ ap (map groups_for) (lengths-rows_at inner l rows)) in
    let rest : lengths above ≡ lengths_from inner n (suc l) (map groups_for (row_lengths_at inner l (map length rows))) =
    lengths-levels_from inner n (suc l) (first + length level) members ∙ ap (lengths_from inner n (suc l)) next in
    map-cond (λ (gs : List (List Child)). map length gs) (eqb (length (joined rows)) 1) [] (level ∷ above)
    ∙ (λ i. cond (eqb (length-joined rows i) 1) [] (here i ∷ rest i))

sum-groups_for : (rows : List ℕ) → sum (map groups_for rows) ≤ sum rows
sum-groups_for [] = omega arith
sum-groups_for (m ∷ ms) = omega (arith, sum-groups_for ms, sum_by-cons (λ n. n) m ms, sum_by-cons (λ n. n) (groups_for m) (map groups_for ms))

-- a level has no more groups than members, and some group in some row
pub record RowsWithin (rows : List ℕ) : Type 0 where
  pub some : 0 < length rows
  pub few : sum rows ≤ MOST_CPUS_V2

rows_at_within : (inner l : ℕ) (rows : List ℕ) → RowsWithin rows → RowsWithin (row_lengths_at inner l rows)
rows_at_within inner l rows h = cond_both (ltb l inner) rows (sum rows ∷ []) RowsWithin (λ _. h) (λ _. record { some = omega arith; few = omega (arith, h.few, sum_by-cons (λ n. n) (sum rows) []) })

pub next_within : (inner l : ℕ) (rows : List ℕ) → RowsWithin rows →
    RowsWithin (map groups_for (row_lengths_at inner l rows))
next_within inner l rows h =
    let cutting = rows_at_within inner l rows h in
    let ms = row_lengths_at inner l rows in
    record { some = omega (arith, length-map ms groups_for, cutting.some); few = omega (arith, sum-groups_for ms, cutting.few) }

-- what is still to be built, where the level just built is taken off it
pub built_more : (inner most l : ℕ) (rows above : List ℕ) (old new : List Group) → l < most → sum rows ≢ 1 →
    above ≡ map groups_for (row_lengths_at inner l rows) →
    new ≡ old ++ listed l 0 (flat_map run_lengths (row_lengths_at inner l rows)) →
    new ++ listed_levels (l + 1) (lengths_from inner (most - (l + 1)) (l + 1) above) ≡ old ++ listed_levels l (lengths_from inner (most - l) l rows)
unfolding listed_levels lengths_from
built_more inner most l rows above old new room more climbed added =
    let left = most - (l + 1) in
    let one_more : most - l ≡ suc left = omega arith in
    let here = flat_map run_lengths (row_lengths_at inner l rows) in
    let next = map groups_for (row_lengths_at inner l rows) in
    let rest = listed_levels (l + 1) (lengths_from inner left (l + 1) next) in
    let all : lengths_from inner (most - l) l rows ≡ here ∷ lengths_from inner left (suc l) next =
    ap (λ n. lengths_from inner n l rows) one_more ∙ cond-false (eqb (sum rows) 1) [] (here ∷ lengths_from inner left (suc l) next) (ne_eqb _ _ more) in
    let after : listed_levels l (lengths_from inner (most - l) l rows) ≡ listed l 0 here ++ rest =
    ap (listed_levels l) all ∙ ap (λ k. listed l 0 here ++ listed_levels k (lengths_from inner left k next)) (sym (add-one l)) in
    ap (λ ns. new ++ listed_levels (l + 1) (lengths_from inner left (l + 1) ns)) climbed
    ∙ (ap (λ gs. gs ++ rest) added ∙ (append_assoc old (listed l 0 here) rest ∙ ap (λ gs. old ++ gs) (sym after)))

none_left : (inner n l : ℕ) (rows : List ℕ) → sum rows ≡ 1 → lengths_from inner n l rows ≡ []
unfolding lengths_from
none_left inner zero l rows one = refl
none_left inner (suc n) l rows one = cond-true (eqb (sum rows) 1) [] (flat_map run_lengths (row_lengths_at inner l rows) ∷ lengths_from inner n (suc l) (map groups_for (row_lengths_at inner l rows))) (eq-eqb _ _ one)

-- nothing is left to be built
pub built_all : (inner n l : ℕ) (rows : List ℕ) (gs : List Group) → n ≡ 0 ⊎ sum rows ≡ 1 →
    gs ++ listed_levels l (lengths_from inner n l rows) ≡ gs
unfolding listed_levels lengths_from
built_all inner n l rows gs h =
    let nothing : lengths_from inner n l rows ≡ [] = ⊎_elim (λ z. ap (λ m. lengths_from inner m l rows) z) (none_left inner n l rows) h in
    ap (λ ls. gs ++ listed_levels l ls) nothing ∙ append-nil gs

-- the lengths of the groups of the tree
pub lengths-tree_of : (nodes cpus : ℕ) (isolated : Cpus) →
    lengths (tree_of nodes cpus isolated).levels ≡ lengths_from (levels_for cpus) (levels_for cpus + levels_for nodes) 0 (map length (node_cpus nodes cpus isolated))
lengths-tree_of nodes cpus isolated =
    lengths-levels_from (levels_for cpus) (levels_for cpus + levels_for nodes) 0 0 (node_cpus nodes cpus isolated)

sum-nodes : (isolated : Cpus) (cpus a k : ℕ) →
    sum (map length (map (λ n. map of_cpu (placed_from isolated (n * cpus) cpus)) (range_with_len a k))) ≤ k * cpus
sum-nodes isolated cpus a zero = omega arith
sum-nodes isolated cpus a (suc k) =
    let here = map of_cpu (placed_from isolated (a * cpus) cpus) in
    let rest = map length (map (λ n. map of_cpu (placed_from isolated (n * cpus) cpus)) (range_with_len (a + 1) k)) in
    omega (arith, sum-nodes isolated cpus (a + 1) k, sum_by-cons (λ x. x) (length here) rest, length-map (placed_from isolated (a * cpus) cpus) of_cpu, few_placed isolated (a * cpus) cpus, suc-mul k cpus)

pub all_few : (nodes cpus : ℕ) → nodes ≤ 8 → cpus ≤ 64 → nodes * cpus ≤ 512
all_few nodes cpus few small = grind arith

-- the nodes of a machine
pub nodes_within : (nodes cpus : ℕ) (isolated : Cpus) → IsWithinLimits nodes cpus isolated →
    RowsWithin (map length (node_cpus nodes cpus isolated))
unfolding node_cpus
nodes_within nodes cpus isolated h =
    let rows = map (λ n. map of_cpu (placed_from isolated (n * cpus) cpus)) (range_with_len 0 nodes) in
    record {
      some = omega (arith, length-map rows (length {A = Child}), length-map (range_with_len 0 nodes) (λ n. map of_cpu (placed_from isolated (n * cpus) cpus)), length-range_with_len 0 nodes, h.some_node);
      few = omega (arith, sum-nodes isolated cpus 0 nodes, all_few nodes cpus h.few_nodes h.few_cpus);
    }

-- one node more
pub nodes_more : (isolated : Cpus) (node cpus first placed : ℕ) (old new : List ℕ) →
    old ≡ map length (node_cpus node cpus isolated) → first ≡ node * cpus →
    placed ≡ length (placed_from isolated first cpus) → new ≡ old ++ placed ∷ [] →
    new ≡ map length (node_cpus (node + 1) cpus isolated)
unfolding node_cpus
nodes_more isolated node cpus first placed old new before at count added =
    let here : ℕ → List Child = λ n. map of_cpu (placed_from isolated (n * cpus) cpus) in
    let size : placed ≡ length (here node) =
    count ∙ (ap (λ n. length (placed_from isolated n cpus)) at ∙ sym (length-map (placed_from isolated (node * cpus) cpus) of_cpu)) in
    added ∙ ((λ i. before i ++ size i ∷ [])
    ∙ (sym (map-append length (map here (range_with_len 0 node)) (here node ∷ []))
    ∙ ap (map length) (sym (map-range_with_len_more here 0 node node (omega arith)))))

-- all levels from the nodes' CPUs on
pub built_from_start : (nodes cpus inner outer : ℕ) (isolated : Cpus) (rows : List ℕ) → inner ≡ levels_for cpus →
    outer ≡ levels_for nodes → rows ≡ map length (node_cpus nodes cpus isolated) →
    listed_levels 0 (lengths_from inner (inner + outer) 0 rows) ≡ listed_levels 0 (lengths (tree_of nodes cpus isolated).levels)
built_from_start nodes cpus inner outer isolated rows p q r =
    (λ i. listed_levels 0 (lengths_from (p i) (p i + q i) 0 (r i))) ∙ ap (listed_levels 0) (sym (lengths-tree_of nodes cpus isolated))
