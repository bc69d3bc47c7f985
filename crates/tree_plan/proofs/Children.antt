-- all children in one list: where those of a group begin in it, and which child stands where
use Rattle.std.proofs.Common.{◌≡◌, ℕ, zero, suc, ◌+◌, ◌^◌, ◌-◌, ◌<◌, ◌≤◌, List, [], ◌∷◌, ◌++◌, length, map, drop, get_or, Some, None, Bool, refl, sym, ◌∙◌, ap, arith, add-zero, zero-add, append_assoc}
use Rattle.std.specs.Prelude.{slice_get, filter, not}
use Rattle.std.specs.List.{range_with_len}
use Rattle.std.specs.FinSet.{contains}
use Rattle.std.proofs.lemmas.List.{append-nil, at_drop_more, drop_all, get_or_past, length-map, map-append}
use Rattle.std.proofs.lemmas.List.Elements.{filter-append}
use Rattle.std.proofs.lemmas.Option.{none-some, same_Some, slice_get_past}
use Rattle.tm_base.specs.declared.names.Child.{Child}
use Rattle.tm_base.specs.declared.names.CpuId.{CpuId}
use Rattle.tm_base.specs.Children.{of_cpu, of_group}
use Rattle.tm_base.specs.CpuSet.{Cpus}
use Rattle.tree_plan.specs.declared.cutting.Group.{Group}
use Rattle.tree_plan.specs.Shape.{Shape, IsPlanned, joined, placed_from}
use Rattle.tree_plan.specs.Paths.{cpu_count_of, groups_of, group_count_of, placed_of, children_of, child_at, child_count_of}
use Rattle.tree_plan.specs.Store.{count_before, cpu_ids, first_child_of, firsts_from}
use Rattle.tree_plan.proofs.Gets.{get_left, get_right, get_map, get_range, get_some, get_within, from_map}
use Rattle.tree_plan.proofs.Building.{all_few}
use Rattle.tree_plan.proofs.Placed.{few_placed, range-append}
use Rattle.tree_plan.proofs.Trees.{cut_laws, group_at, grouped, more_cpus, child_total}

-- ---- the index of a group's first child

pub get-firsts : (next : ℕ) (ns : List ℕ) (g : ℕ) → g < length ns →
    slice_get (firsts_from next ns) g ≡ Some (next + count_before ns g)
unfolding firsts_from count_before
get-firsts next [] g low = absurd (omega arith)
get-firsts next (n ∷ ns) zero low = ap (λ k. Some k) (sym (add-zero next))
get-firsts next (n ∷ ns) (suc g) low =
    let all : next + n + count_before ns g ≡ next + (n + count_before ns g) = omega arith in
    get-firsts (next + n) ns g (omega arith) ∙ ap (λ k. Some k) all

pub length-firsts : (next : ℕ) (ns : List ℕ) → length (firsts_from next ns) ≡ length ns
unfolding firsts_from
length-firsts next [] = refl
length-firsts next (n ∷ ns) = ap suc (length-firsts (next + n) ns)

-- from there on all children are the group's
pub child_there : (groups : List (List Child)) (g k : ℕ) (run : List Child) →
    slice_get groups g ≡ Some run → k < length run →
    slice_get (joined groups) (count_before (map length groups) g + k) ≡ slice_get run k
unfolding count_before
child_there [] g k run e low = absurd (none-some run e)
child_there (first ∷ groups) zero k run e low =
    let m = get_some run k low in
    let same = same_Some first run e in
    let at : 0 + k ≡ k = omega arith in
    ap (slice_get (first ++ joined groups)) at
    ∙ (get_left first (joined groups) k m.0 (ap (λ r. slice_get r k) same ∙ m.1) ∙ sym m.1)
child_there (first ∷ groups) (suc g) k run e low =
    let before = count_before (map length groups) g in
    let at : length first + before + k ≡ length first + (before + k) = omega arith in
    ap (slice_get (first ++ joined groups)) at
    ∙ (get_right first (joined groups) (before + k) ∙ child_there groups g k run e low)

-- ---- the loop that counts

pub firsts_more : (i next more : ℕ) (groups : List Group) (d : Group) (old new : List ℕ) → i < length groups →
    more ≡ (get_or groups i d).children → new ≡ old ++ next ∷ [] →
    new ++ firsts_from (next + more) (map (λ (g : Group). g.children) (drop (i + 1) groups))
    ≡ old ++ firsts_from next (map (λ (g : Group). g.children) (drop i groups))
unfolding firsts_from
firsts_more i next more groups d old new within here added =
    let sizes : List Group → List ℕ = λ gs. map (λ (g : Group). g.children) gs in
    let rest = firsts_from (next + more) (sizes (drop (i + 1) groups)) in
    let after : firsts_from next (sizes (drop i groups)) ≡ next ∷ rest =
    at_drop_more (λ gs. firsts_from next (sizes gs)) groups i d within
    ∙ ap (λ n. next ∷ firsts_from (next + n) (sizes (drop (i + 1) groups))) (sym here) in
    ap (λ ls. ls ++ rest) added ∙ (append_assoc old (next ∷ []) rest ∙ ap (λ ls. old ++ ls) (sym after))

pub firsts_done : (i next : ℕ) (groups : List Group) (ls : List ℕ) → length groups ≤ i →
    ls ++ firsts_from next (map (λ (g : Group). g.children) (drop i groups)) ≡ ls
unfolding firsts_from
firsts_done i next groups ls done =
    ap (λ gs. ls ++ firsts_from next (map (λ (g : Group). g.children) gs)) (drop_all i groups done) ∙ append-nil ls

-- ---- the placed CPUs, one CPU more

pub placed_on : (isolated : Cpus) (cpu : ℕ) →
    cpu_ids (placed_from isolated 0 cpu) ++ cpu_ids (placed_from isolated cpu 1) ≡ cpu_ids (placed_from isolated 0 (cpu + 1))
placed_on isolated cpu =
    let free : ℕ → Bool = λ c. not (contains isolated c) in
    let id : ℕ → CpuId = λ n. record { 0 = n } in
    let range = range-append 0 cpu 1 ∙ ap (λ k. range_with_len 0 cpu ++ range_with_len k 1) (zero-add cpu) in
    sym (ap (λ ms. map id (filter free ms)) range
    ∙ (ap (map id) (filter-append free (range_with_len 0 cpu) (range_with_len cpu 1))
    ∙ map-append id (filter free (range_with_len 0 cpu)) (filter free (range_with_len cpu 1))))

-- ---- which child stands where

some_group : (groups : List (List Child)) (i : ℕ) → i < length (joined groups) → 0 < length groups
some_group [] i low = absurd (omega arith)
some_group (first ∷ groups) i low = omega arith

module _ (t : Shape) (planned : IsPlanned t) (i : ℕ) (low : i < length (joined (groups_of t))) where
  some : 0 < group_count_of t
  some = some_group (groups_of t) i low

  all : joined (groups_of t) ≡ map of_cpu (placed_of t) ++ map of_group (range_with_len 0 (group_count_of t - 1))
  all = (cut_laws t planned).members (grouped t planned (more_cpus t planned some))

  pub cpu_stands : (cpu : CpuId) → slice_get (cpu_ids (placed_of t)) i ≡ Some cpu →
      slice_get (joined (groups_of t)) i ≡ Some (of_cpu cpu.0)
  cpu_stands cpu e =
      let n = from_map (λ n. record { 0 = n }) (placed_of t) i cpu e in
      let number : n.0 ≡ cpu.0 = sym (ap (λ (c : CpuId). c.0) n.2) in
      ap (λ ms. slice_get ms i) all
      ∙ (get_left (map of_cpu (placed_of t)) (map of_group (range_with_len 0 (group_count_of t - 1))) i (of_cpu n.0) (get_map of_cpu (placed_of t) i n.0 n.1)
      ∙ ap (λ c. Some (of_cpu c)) number)

  pub group_low : length (placed_of t) ≤ i → i - length (placed_of t) < group_count_of t - 1
  group_low past = omega (arith, past, low, child_total t planned some)

  pub group_stands : length (placed_of t) ≤ i →
      slice_get (joined (groups_of t)) i ≡ Some (of_group (i - length (placed_of t)))
  group_stands past =
      let cpus = map of_cpu (placed_of t) in
      let groups = map of_group (range_with_len 0 (group_count_of t - 1)) in
      let j = i - length (placed_of t) in
      let at : i ≡ length cpus + j = omega (arith, past, length-map (placed_of t) of_cpu) in
      ap (λ ms. slice_get ms i) all
      ∙ (ap (slice_get (cpus ++ groups)) at
      ∙ (get_right cpus groups j
      ∙ (get_range of_group 0 (group_count_of t - 1) j (group_low past) ∙ ap (λ k. Some (of_group k)) (zero-add j))))

-- ---- the child of a group

module _ (t : Shape) (g k : ℕ) where
  pub no_child : child_count_of t g ≤ k → None ≡ child_at t g k
  no_child past = sym (slice_get_past (children_of t g) k past)

  pub no_group : group_count_of t ≤ g → None ≡ child_at t g k
  unfolding children_of
  no_group past = sym (ap (λ run. slice_get run k) (get_or_past (groups_of t) g [] past))

  module _ (planned : IsPlanned t) (inside : g < group_count_of t) (low : k < child_count_of t g) where
    pub child_stands : slice_get (joined (groups_of t)) (first_child_of t g + k) ≡ child_at t g k
    child_stands = child_there (groups_of t) g k (children_of t g) (group_at t planned g inside) low

    pub child_inside : first_child_of t g + k < length (joined (groups_of t))
    child_inside =
        let m = get_some (children_of t g) k low in
        get_within (joined (groups_of t)) (first_child_of t g + k) m.0 (child_stands ∙ m.1)

    -- there are no more children than CPUs and groups
    pub child_narrow : first_child_of t g + k < 2 ^ 16
    child_narrow =
        let cpus = few_placed t.isolated 0 (cpu_count_of t) in
        let limits = planned.limits in
        omega (arith, child_inside, child_total t planned (omega (arith, inside)), cpus, all_few t.nodes t.cpus limits.few_nodes limits.few_cpus, (cut_laws t planned).at_most_73_groups)
