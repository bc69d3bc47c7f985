-- the levels of a tree stand on one another: each cuts the numbers of the groups below it, in ascending order, and one group is left at the end
use Rattle.std.proofs.Common.{◌≡◌, ℕ, Bool, zero, suc, ◌+◌, ◌-◌, ◌*◌, ◌^◌, ◌<◌, ◌≤◌, List, [], ◌∷◌, ◌++◌, length, map, refl, sym, ◌∙◌, ap, subst, arith, zero-add, eqb, ltb, length-append, ◌⊎◌, inl, inr, ⊎_elim}
use Rattle.std.specs.Prelude.{slice_get, ◌↔◌, Some, filter, not}
use Rattle.std.specs.FinSet.{contains}
use Rattle.std.proofs.lemmas.List.Elements.{filter-append}
use Rattle.std.proofs.lemmas.Option.{none-some}
use Rattle.std.specs.List.{range_with_len}
use Rattle.std.proofs.Math.Nat.{pow-suc, suc-mul}
use Rattle.std.proofs.lemmas.Bool.{cond_both, cond-true, cond-false, lt-ltb, le-ltb, eqb-true, eqb-false, cases_lt}
use Rattle.std.proofs.lemmas.List.{append-nil, length-map, map-append}
use Rattle.std.proofs.lemmas.List.FromFn.{length-range_with_len}
use Rattle.tm_base.specs.declared.names.Child.{Child}
use Rattle.tm_base.specs.Children.{of_cpu, of_group}
use Rattle.tm_base.specs.CpuSet.{Cpus}
use Rattle.tree_plan.specs.Shape.{levels_for, levels_from, rows_at, numbered, cut, joined, placed_from, node_cpus, tree_of}
use Rattle.tree_plan.specs.Store.{groups_for}
use Rattle.tree_plan.specs.Paths.{level_in, place_in}
use Rattle.tree_plan.proofs.Gets.{get_either, get_within, from_range}
use Rattle.tree_plan.proofs.Seats.{index_of}
use Rattle.tree_plan.proofs.Cuts.{AllRuns, AllRuns-append, joined-append, length-cut, joined-level, runs-level}
use Rattle.tree_plan.proofs.Placed.{range-append, few_placed}
use Rattle.tree_plan.proofs.Powers.{levels_reach}

-- a level cuts more than one member into runs
pub record IsCut (ms : List Child) (level : List (List Child)) : Type 0 where
  pub more : 1 < length ms
  pub whole : joined level ≡ ms
  pub runs : AllRuns level

-- the groups with these numbers
abbrev pub group_range : (first n : ℕ) → List Child
group_range first n = map of_group (range_with_len first n)

-- the first of these levels cuts ms and numbers its groups from `first` on, and so does each next one with the groups below it
abbrev pub IsStack : ℕ → List Child → List (List (List Child)) → Type 0
IsStack first ms [] = length ms ≡ 1
IsStack first ms (level ∷ above) = IsCut ms level × IsStack (first + length level) (group_range first (length level)) above

pub group_range-append : (first n m : ℕ) →
    group_range first (n + m) ≡ group_range first n ++ group_range (first + n) m
group_range-append first n m =
    ap (map of_group) (range-append first n m) ∙ map-append of_group (range_with_len first n) (range_with_len (first + n) m)

-- the members of the next level are the numbers of all groups of this one
pub joined-numbered : (first : ℕ) (rows : List (List (List Child))) →
    joined (numbered first rows) ≡ group_range first (length (joined rows))
unfolding numbered
joined-numbered first [] = refl
joined-numbered first (groups ∷ rows) =
    ap (λ ms. group_range first (length groups) ++ ms) (joined-numbered (first + length groups) rows)
    ∙ (sym (group_range-append first (length groups) (length (joined rows))) ∙ ap (group_range first) (sym (length-append groups (joined rows))))

joined-rows_at : (inner l : ℕ) (rows : List (List Child)) → joined (rows_at inner l rows) ≡ joined rows
unfolding rows_at
joined-rows_at inner l rows =
    cond_both (ltb l inner) rows (joined rows ∷ []) (λ cutting. joined cutting ≡ joined rows) (λ _. refl) (λ _. append-nil (joined rows))

-- the groups of a level that cuts these rows
abbrev level_of_rows : List (List Child) → List (List Child)
level_of_rows rows = joined (map cut rows)

-- one more level below those that stand on it
more_level : (inner n l first : ℕ) (rows : List (List Child)) →
    let groups = map cut (rows_at inner l rows) in
    1 ≤ length (joined rows) →
    (1 < length (joined rows) → IsStack (first + length (joined groups)) (joined (numbered first groups)) (levels_from inner n (suc l) (first + length (joined groups)) (numbered first groups))) →
    IsStack first (joined rows) (levels_from inner (suc n) l first rows)
unfolding levels_from
more_level inner n l first rows some above =
    let groups = map cut (rows_at inner l rows) in
    let level = joined groups in
    cond_both (eqb (length (joined rows)) 1) [] (level ∷ levels_from inner n (suc l) (first + length level) (numbered first groups)) (IsStack first (joined rows))
    (λ one. eqb-true _ _ one)
    (λ not_one.
    let more : 1 < length (joined rows) = omega (arith, eqb-false _ _ not_one) in (
      record { more = more; whole = joined-level (rows_at inner l rows) ∙ joined-rows_at inner l rows; runs = runs-level (rows_at inner l rows) },
      subst (λ ms. IsStack (first + length level) ms (levels_from inner n (suc l) (first + length level) (numbered first groups))) (joined-numbered first groups) (above more),
    ))

some_groups : (level : List (List Child)) (ms : List Child) → joined level ≡ ms → 1 ≤ length ms → 1 ≤ length level
some_groups [] ms e h = absurd (omega (arith, ap length e))
some_groups (run ∷ level) ms e h = omega arith

-- as many members as groups below them
pub length-members : (first : ℕ) (rows : List (List (List Child))) →
    length (joined (numbered first rows)) ≡ length (joined rows)
length-members first rows =
    ap length (joined-numbered first rows) ∙ (length-map (range_with_len first (length (joined rows))) of_group ∙ length-range_with_len first (length (joined rows)))

some_members : (inner l first : ℕ) (rows : List (List Child)) → 1 ≤ length (joined rows) →
    1 ≤ length (joined (numbered first (map cut (rows_at inner l rows))))
some_members inner l first rows some =
    let groups = map cut (rows_at inner l rows) in
    let level : 1 ≤ length (joined groups) = some_groups (joined groups) (joined rows) (joined-level (rows_at inner l rows) ∙ joined-rows_at inner l rows) some in
    omega (arith, length-members first groups)

-- across nodes: all members are one row
across : (inner n l first : ℕ) (rows : List (List Child)) → inner ≤ l → 1 ≤ length (joined rows) →
    length (joined rows) ≤ 8 ^ n → IsStack first (joined rows) (levels_from inner n l first rows)
unfolding levels_from rows_at
across inner zero l first rows high some few = omega arith
across inner (suc n) l first rows high some few =
    let groups = map cut (rows_at inner l rows) in
    let one_row : rows_at inner l rows ≡ joined rows ∷ [] = cond-false (ltb l inner) rows (joined rows ∷ []) (le-ltb l inner high) in
    let level_size : length (joined groups) ≡ groups_for (length (joined rows)) =
    ap (λ cutting. length (joined (map cut cutting))) one_row ∙ (ap length (append-nil (cut (joined rows))) ∙ length-cut (joined rows)) in
    more_level inner n l first rows some
    (λ _. across inner n (suc l) (first + length (joined groups)) (numbered first groups) (omega arith) (some_members inner l first rows some) (omega (arith, length-members first groups, level_size, pow-suc 8 n)))

-- no row has more than m members
abbrev pub AtMost : {A : Type 0} → ℕ → List (List A) → Type 0
AtMost m [] = Unit {0}
AtMost m (row ∷ rows) = (length row ≤ m) × AtMost m rows

pub length-at_most : {A : Type 0} (m : ℕ) (rows : List (List A)) → AtMost m rows → length (joined rows) ≤ length rows * m
length-at_most m [] h = omega arith
length-at_most m (row ∷ rows) h = omega (arith, length-append row (joined rows), length-at_most m rows h.1, suc-mul (length rows) m, h.0)

pub at_most_next : (m first : ℕ) (rows : List (List Child)) → AtMost (m * 8) rows →
    AtMost m (numbered first (map cut rows))
unfolding numbered
at_most_next m first [] h = tt
at_most_next m first (row ∷ rows) h = (
  omega (arith, length-map (range_with_len first (length (cut row))) of_group, length-range_with_len first (length (cut row)), length-cut row, h.0),
  at_most_next m (first + length (cut row)) rows h.1,
)

pub same_rows : (first : ℕ) (rows : List (List (List Child))) → length (numbered first rows) ≡ length rows
unfolding numbered
same_rows first [] = refl
same_rows first (groups ∷ rows) = ap suc (same_rows (first + length groups) rows)

-- within nodes: k levels until each row has one member, and then across nodes
within : (inner k outer n l first : ℕ) (rows : List (List Child)) → l + k ≡ inner → n ≡ k + outer →
    AtMost (8 ^ k) rows → length rows ≤ 8 ^ outer → 1 ≤ length (joined rows) →
    IsStack first (joined rows) (levels_from inner n l first rows)
unfolding rows_at
within inner zero outer n l first rows here all few_rows nodes some =
    across inner n l first rows (omega arith) some (omega (arith, length-at_most 1 rows few_rows, ap (λ m. 8 ^ m) all, ap (λ m. 8 ^ m) (zero-add outer)))
within inner (suc k) outer zero l first rows here all few_rows nodes some = absurd (omega arith)
within inner (suc k) outer (suc n) l first rows here all few_rows nodes some =
    let groups = map cut (rows_at inner l rows) in
    let same : rows_at inner l rows ≡ rows = cond-true (ltb l inner) rows (joined rows ∷ []) (lt-ltb l inner (omega arith)) in
    more_level inner n l first rows some
    (λ _. within inner k outer n (suc l) (first + length (joined groups)) (numbered first groups) (omega arith) (omega arith)
    (subst (λ cutting. AtMost (8 ^ k) (numbered first (map cut cutting))) (sym same) (at_most_next (8 ^ k) first rows (subst (λ m. AtMost m rows) (pow-suc 8 k) few_rows)))
    (omega (arith, same_rows first groups, length-map (rows_at inner l rows) (cut {A = Child}), ap length same))
    (some_members inner l first rows some))

-- ---- the tree of a machine

-- the CPUs of all nodes are one run
placed-append : (isolated : Cpus) (a n m : ℕ) →
    placed_from isolated a n ++ placed_from isolated (a + n) m ≡ placed_from isolated a (n + m)
placed-append isolated a n m =
    let free : ℕ → Bool = λ c. not (contains isolated c) in
    sym (filter-append free (range_with_len a n) (range_with_len (a + n) m)) ∙ ap (filter free) (sym (range-append a n m))

-- the placed CPUs of a node
abbrev pub cpus_of_node : Cpus → (cpus n : ℕ) → List Child
cpus_of_node isolated cpus n = map of_cpu (placed_from isolated (n * cpus) cpus)

joined-nodes : (isolated : Cpus) (cpus a k : ℕ) →
    joined (map (cpus_of_node isolated cpus) (range_with_len a k)) ≡ map of_cpu (placed_from isolated (a * cpus) (k * cpus))
joined-nodes isolated cpus a zero = let none : 0 ≡ 0 * cpus = omega arith in ap (λ n. map of_cpu (placed_from isolated (a * cpus) n)) none
joined-nodes isolated cpus a (suc k) =
    let here = placed_from isolated (a * cpus) cpus in
    let next : (a + 1) * cpus ≡ a * cpus + cpus = omega arith in
    let whole : cpus + k * cpus ≡ suc k * cpus = omega arith in
    ap (λ ms. map of_cpu here ++ ms) (joined-nodes isolated cpus (a + 1) k ∙ ap (λ n. map of_cpu (placed_from isolated n (k * cpus))) next)
    ∙ (sym (map-append of_cpu here (placed_from isolated (a * cpus + cpus) (k * cpus)))
    ∙ ap (map of_cpu) (placed-append isolated (a * cpus) cpus (k * cpus) ∙ ap (placed_from isolated (a * cpus)) whole))

pub at_most_nodes : (isolated : Cpus) (cpus : ℕ) (ns : List ℕ) → AtMost cpus (map (cpus_of_node isolated cpus) ns)
at_most_nodes isolated cpus [] = tt
at_most_nodes isolated cpus (n ∷ ns) =
    (omega (arith, length-map (placed_from isolated (n * cpus) cpus) of_cpu, few_placed isolated (n * cpus) cpus), at_most_nodes isolated cpus ns)

pub at_most_weaker : {A : Type 0} (m k : ℕ) (rows : List (List A)) → m ≤ k → AtMost m rows → AtMost k rows
at_most_weaker m k [] le h = tt
at_most_weaker m k (row ∷ rows) le h = (omega (arith, h.0), at_most_weaker m k rows le h.1)

-- the levels of a machine stand on its placed CPUs
pub tree_stack : (nodes cpus : ℕ) (isolated : Cpus) → 1 ≤ length (placed_from isolated 0 (nodes * cpus)) →
    IsStack 0 (map of_cpu (placed_from isolated 0 (nodes * cpus))) (tree_of nodes cpus isolated).levels
unfolding node_cpus
tree_stack nodes cpus isolated some =
    let inner = levels_for cpus in
    let outer = levels_for nodes in
    let rows = node_cpus nodes cpus isolated in
    let all : joined rows ≡ map of_cpu (placed_from isolated 0 (nodes * cpus)) =
    joined-nodes isolated cpus 0 nodes ∙ ap (λ a. map of_cpu (placed_from isolated a (nodes * cpus))) (omega arith) in
    let count : length (joined rows) ≡ length (placed_from isolated 0 (nodes * cpus)) =
    ap length all ∙ length-map (placed_from isolated 0 (nodes * cpus)) of_cpu in
    subst (λ ms. IsStack 0 ms (levels_from inner (inner + outer) 0 0 rows)) all
    (within inner inner outer (inner + outer) 0 0 rows (omega arith) refl
    (at_most_weaker cpus (8 ^ inner) rows (levels_reach cpus) (at_most_nodes isolated cpus (range_with_len 0 nodes)))
    (omega (arith, levels_reach nodes, length-map (range_with_len 0 nodes) (cpus_of_node isolated cpus), length-range_with_len 0 nodes))
    (omega (arith, count)))

-- ---- what follows of levels that stand on one another

-- a group for every run, and no run without a member
pub level_fits : (level : List (List Child)) → AllRuns level → length level ≤ length (joined level)
level_fits [] h = omega arith
level_fits (run ∷ level) h = omega (arith, level_fits level h.1, h.0.some, length-append run (joined level))

pub length-group_range : (first n : ℕ) → length (group_range first n) ≡ n
length-group_range first n = length-map (range_with_len first n) of_group ∙ length-range_with_len first n

-- the members of the first of these levels and then all groups but the top are the children of all groups
pub all_members : (first : ℕ) (ms : List Child) (levels : List (List (List Child))) → IsStack first ms levels →
    1 < length ms →
    (1 ≤ length (joined levels)) × (joined (joined levels) ≡ ms ++ group_range first (length (joined levels) - 1))
all_members first ms [] h more = absurd (omega arith)
all_members first ms (level ∷ []) h more =
    let one : length level ≡ 1 = sym (length-group_range first (length level)) ∙ h.1 in
    let alone : level ++ [] ≡ level = append-nil level in
    let none : 0 ≡ length (level ++ []) - 1 = omega (arith, one, ap length alone) in
    (omega (arith, one, ap length alone), ap joined alone ∙ (h.0.whole ∙ (sym (append-nil ms) ∙ ap (λ n. ms ++ group_range first n) none)))
all_members first ms (level ∷ (next ∷ above)) h more =
    let rest = joined (next ∷ above) in
    let up = all_members (first + length level) (group_range first (length level)) (next ∷ above) h.1 h.1.0.more in
    let count : length level + (length rest - 1) ≡ length (level ++ rest) - 1 = omega (arith, length-append level rest, up.0) in (
      omega (arith, length-append level rest, up.0),
      joined-append level rest ∙ ((λ i. h.0.whole i ++ up.1 i)
          ∙ ap (λ gs. ms ++ gs) (sym (group_range-append first (length level) (length rest - 1)) ∙ ap (group_range first) count)),
    )

-- ---- levels

-- a group of the first level stands at level 0, and every other one level higher than it stands above the first
pub first_level : (level : List (List Child)) (above : List (List (List Child))) (g : ℕ) → g < length level →
    level_in (level ∷ above) g ≡ 0
unfolding level_in
first_level level above g inside = cond-true (ltb g (length level)) 0 (suc (level_in above (g - length level))) (lt-ltb g (length level) inside)

pub later_level : (level : List (List Child)) (above : List (List (List Child))) (g h : ℕ) → g ≡ length level + h →
    level_in (level ∷ above) g ≡ suc (level_in above h)
unfolding level_in
later_level level above g h at =
    cond-false (ltb g (length level)) 0 (suc (level_in above (g - length level))) (le-ltb g (length level) (omega arith)) ∙ ap (λ n. suc (level_in above n)) (omega arith)

pub level_below : (levels : List (List (List Child))) (g : ℕ) → g < length (joined levels) →
    level_in levels g < length levels
level_below [] g h = absurd (omega arith)
level_below (level ∷ above) g h =
    ⊎_elim (λ here. omega (arith, first_level level above g here))
    (λ later. omega (arith, later_level level above g (g - length level) (omega arith), level_below above (g - length level) (omega (arith, length-append level (joined above)))))
    (cases_lt g (length level))

pub first_place : (level : List (List Child)) (above : List (List (List Child))) (g : ℕ) → g < length level →
    place_in (level ∷ above) g ≡ g
unfolding place_in
first_place level above g inside = cond-true (ltb g (length level)) g (place_in above (g - length level)) (lt-ltb g (length level) inside)

pub later_place : (level : List (List Child)) (above : List (List (List Child))) (g h : ℕ) → g ≡ length level + h →
    place_in (level ∷ above) g ≡ place_in above h
unfolding place_in
later_place level above g h at =
    cond-false (ltb g (length level)) g (place_in above (g - length level)) (le-ltb g (length level) (omega arith)) ∙ ap (place_in above) (omega arith)

-- a level and a place in it name one group
pub same_place : (levels : List (List (List Child))) (g h : ℕ) → g < length (joined levels) →
    h < length (joined levels) → level_in levels g ≡ level_in levels h → place_in levels g ≡ place_in levels h → g ≡ h
same_place [] g h inside inside' levels places = absurd (omega arith)
same_place (level ∷ above) g h inside inside' levels places =
    let size = length-append level (joined above) in
    ⊎_elim (λ low.
    ⊎_elim (λ low'. omega (arith, places, first_place level above g low, first_place level above h low'))
    (λ high'. absurd (omega (arith, levels, first_level level above g low, later_level level above h (h - length level) (omega arith))))
    (cases_lt h (length level)))
    (λ high.
    let g' = g - length level in
    let up = later_level level above g g' (omega arith) in
    ⊎_elim (λ low'. absurd (omega (arith, levels, up, first_level level above h low')))
    (λ high'.
    let h' = h - length level in
    let same = same_place above g' h' (omega (arith, size)) (omega (arith, size)) (omega (arith, levels, up, later_level level above h h' (omega arith)))
    (sym (later_place level above g g' (omega arith)) ∙ (places ∙ later_place level above h h' (omega arith))) in
    omega (arith, same))
    (cases_lt h (length level)))
    (cases_lt g (length level))

-- only the last group stands at the highest level
pub highest_level : (first : ℕ) (ms : List Child) (levels : List (List (List Child))) → IsStack first ms levels →
    (g : ℕ) → g < length (joined levels) →
    (suc (level_in levels g) ≡ length levels) ↔ (suc g ≡ length (joined levels))
highest_level first ms [] h g inside = absurd (omega arith)
highest_level first ms (level ∷ []) h g inside =
    let one : length level ≡ 1 = sym (length-group_range first (length level)) ∙ h.1 in
    let size = ap length (append-nil level) in
    (λ _. omega (arith, one, size), λ _. omega (arith, first_level level [] g (omega (arith, one, size))))
highest_level first ms (level ∷ (next ∷ above)) h g inside =
    let rest = next ∷ above in
    let size = length-append level (joined rest) in
    let some = (all_members (first + length level) (group_range first (length level)) rest h.1 h.1.0.more).0 in
    ⊎_elim (λ here.
    let low = first_level level rest g here in
    (λ top. absurd (omega (arith, low, top)), λ last. absurd (omega (arith, size, some, last))))
    (λ later.
    let up = highest_level (first + length level) (group_range first (length level)) (next ∷ above) h.1 (g - length level) (omega (arith, size)) in
    let high = later_level level rest g (g - length level) (omega arith) in
    (λ top. omega (arith, size, up.0 (omega (arith, high, top))), λ last. omega (arith, high, up.1 (omega (arith, size, last)))))
    (cases_lt g (length level))

-- a child of the first level is a member, and a child of each other is a group, one level lower and with a smaller number
pub child_level : (first : ℕ) (ms : List Child) (levels : List (List (List Child))) → IsStack first ms levels →
    (p k : ℕ) (m : Child) (run : List Child) → slice_get (joined levels) p ≡ Some run → slice_get run k ≡ Some m →
    ((level_in levels p ≡ 0) × ((i : ℕ) × (slice_get ms i ≡ Some m))) ⊎ ((g : ℕ) × (m ≡ of_group (first + g)) × (g < p) × (level_in levels p ≡ suc (level_in levels g)))
child_level first ms [] h p k m run here there = absurd (none-some run here)
child_level first ms (level ∷ above) h p k m run here there =
    ⊎_elim (λ low.
    let at = index_of 0 level p k m run low there in
    inl (first_level level above p (get_within level p run low), (at.index, subst (λ ms. slice_get ms at.index ≡ Some m) h.0.whole at.child)))
    (λ high.
    let q = high.0 in
    let up = later_level level above p q high.1 in
    ⊎_elim (λ lowest.
    let g = lowest.1.0 in
    let group = from_range of_group first (length level) g m lowest.1.1 in
    inr (g, group.1, omega (arith, high.1, group.0), up ∙ ap suc (lowest.0 ∙ sym (first_level level above g group.0))))
    (λ higher.
    let g = length level + higher.0 in
    inr (g, higher.1 ∙ ap of_group (omega arith), omega (arith, high.1, higher.2), up ∙ ap suc (higher.3 ∙ sym (later_level level above g higher.0 refl))))
    (child_level (first + length level) (group_range first (length level)) above h.1 q k m run high.2 there))
    (get_either level (joined above) p run here)

-- every group of every level is a run
pub all_runs : (first : ℕ) (ms : List Child) (levels : List (List (List Child))) → IsStack first ms levels →
    AllRuns (joined levels)
all_runs first ms [] h = tt
all_runs first ms (level ∷ above) h =
    AllRuns-append level (joined above) h.0.runs (all_runs (first + length level) (group_range first (length level)) above h.1)

-- there are at most n levels
pub levels_within : (inner n l first : ℕ) (rows : List (List Child)) → length (levels_from inner n l first rows) ≤ n
unfolding levels_from
levels_within inner zero l first rows = omega arith
levels_within inner (suc n) l first rows =
    let groups = map cut (rows_at inner l rows) in
    let above = levels_from inner n (suc l) (first + length (joined groups)) (numbered first groups) in
    cond_both (eqb (length (joined rows)) 1) [] (joined groups ∷ above) (λ levels. length levels ≤ suc n) (λ _. omega arith)
    (λ _. omega (arith, levels_within inner n (suc l) (first + length (joined groups)) (numbered first groups)))
