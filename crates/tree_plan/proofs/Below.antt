-- for crates above: the laws of placed CPUs and of the CPUs below groups follow from the others
use Rattle.std.proofs.Common.{◌≡◌, ℕ, zero, suc, ◌<◌, ⊎_elim, Bool, true, List, [], ◌∷◌, refl, sym, ◌∙◌, ap, arith}
use Rattle.std.specs.Prelude.{◌↔◌, ◌==◌, Option, Some, None, is_some, slice_get}
use Rattle.std.specs.List.{list_any}
use Rattle.std.specs.FinSet.{contains}
use Rattle.std.proofs.lemmas.Bool.{cases_lt, false≢true, or_cases, or_left, or_right, eqb-true, eq-eqb, not-true}
use Rattle.std.proofs.lemmas.Option.{none-some, same_Some}
use Rattle.tm_base.specs.declared.names.Child.{Child}
use Rattle.tm_base.specs.declared.names.Child.TheVariants.{Cpu, Group}
use Rattle.tm_base.specs.Children.{of_cpu, of_group}
use Rattle.tree_plan.specs.Shape.{Shape, IsPlanned}
use Rattle.tree_plan.specs.Paths.{cpu_count_of, is_placed_in, placed_of, groups_of, level_of, children_of, child_at, bit_of, group_at_of, path_of, IsTop, IsBelow, IsUnder, is_below, is_under}
use Rattle.tree_plan.specs.Laws.{PlacedLaws, PathLaws, BelowLaws}
use Rattle.tree_plan.proofs.Placed.{rank_in, from_rank, rank_up, placed_parts, is_placed}
use Rattle.tree_plan.proofs.Seats.{StandsBefore, one_group, two_groups}
use Rattle.tree_plan.proofs.Trees.{free_in, placed_there, some_cpus, rank, rank_is, alone, grouped, group_at, group_of_child, has_child, cut_laws, edge_laws, level_laws}
use Rattle.tree_plan.proofs.Walks.{path_laws, below, no_path, height}

-- some element that passes a test
any_from : {A : Type 0} (p : A → Bool) (xs : List A) → list_any p xs ≡ true →
    (i : ℕ) × (x : A) × (slice_get xs i ≡ Some x) × (p x ≡ true)
any_from p [] e = absurd (false≢true e)
any_from p (x ∷ xs) e =
    ⊎_elim (λ here. (0, x, refl, here)) (λ later. let at = any_from p xs later in (suc at.0, at.1, at.2, at.3)) (or_cases (p x) (list_any p xs) e)

any_at : {A : Type 0} (p : A → Bool) (xs : List A) (i : ℕ) (x : A) → slice_get xs i ≡ Some x → p x ≡ true →
    list_any p xs ≡ true
any_at p [] i x at is = absurd (none-some x at)
any_at p (y ∷ xs) zero x at is = or_left (p y) (list_any p xs) (ap p (same_Some _ _ at) ∙ is)
any_at p (y ∷ xs) (suc i) x at is = or_right (p y) (list_any p xs) (any_at p xs i x at is)

module _ (t : Shape) (planned : IsPlanned t) where
  pub paths : PathLaws t
  paths = path_laws t (cut_laws t planned) (edge_laws t planned) (level_laws t planned)

  -- ---- placed CPUs

  listed : (c : ℕ) → (is_placed_in t c ≡ true) ↔ ((i : ℕ) × (slice_get (placed_of t) i ≡ Some c))
  listed c = (
    λ is.
        let parts = placed_parts t c is in
        (rank_in (free_in t) 0 c, placed_there t c parts.0 parts.1),
    λ at.
        let found = from_rank (free_in t) 0 (cpu_count_of t) at.0 c at.1 in
        is_placed t c (omega (arith, found.number, found.within)) (not-true (contains t.isolated c) found.passes),
  )

  has_group : (c : ℕ) (o : Option ℕ) → group_at_of t c 0 ≡ o → is_some o ≡ true → is_placed_in t c ≡ true
  has_group c None e some = absurd (false≢true some)
  has_group c (Some g) e some = paths.cpu_placed c 0 g e

  pub placed_laws : PlacedLaws t
  placed_laws = record {
    some_placed = some_cpus t planned;
    listed = listed;
    in_range = λ c is. (placed_parts t c is).0;
    alone = alone t planned;
    grouped = grouped t planned;
    placed = λ c some is. ap is_some (paths.there c 0 is some).1;
    height = height t (cut_laws t planned) (edge_laws t planned) (level_laws t planned);
    has_group = λ c some. has_group c (group_at_of t c 0) refl some;
    isolated = no_path t (cut_laws t planned) (edge_laws t planned) (level_laws t planned);
  }

  -- ---- tests

  below_path : (c g : ℕ) → (is_below t c g ≡ true) ↔ IsBelow t c g
  below_path c g = (
    λ is.
        let at = any_from (λ h. h == g) (path_of t c) is in
        (at.0, sym (paths.listed c at.0) ∙ (at.2 ∙ ap Some (eqb-true at.1 g at.3))),
    λ on. any_at (λ h. h == g) (path_of t c) on.0 g (paths.listed c on.0 ∙ on.1) (eq-eqb g g refl),
  )

  under_test : (c : ℕ) (m : Child) → (is_under t c m ≡ true) ↔ IsUnder t c m
  under_test c (Cpu d) = (λ is. eqb-true c d.0 is, λ same. eq-eqb c d.0 same)
  under_test c (Group g) = below_path c g.0

  -- ---- children

  pub below_child : (c p : ℕ) → IsBelow t c p → (k : ℕ) × (m : Child) × (child_at t p k ≡ Some m) × IsUnder t c m
  below_child c p on =
      let step = paths.towards c on.0 p on.1 in
      (bit_of t step.0, step.0, step.3, paths.reached c on.0 step.0 step.1)

  child_below : (c p k : ℕ) (m : Child) → child_at t p k ≡ Some m → IsUnder t c m → IsBelow t c p
  child_below c p k m at under =
      let up = (edge_laws t planned).parent p k m at in
      (level_of t p, paths.onwards c (level_of t p) m (paths.under c p m up under) ∙ up)

  one_child : (c p j k : ℕ) (m n : Child) → child_at t p j ≡ Some m → child_at t p k ≡ Some n → IsUnder t c m →
      IsUnder t c n → j ≡ k
  one_child c p j k m n at at' under under' =
      let edges = edge_laws t planned in
      let one = paths.under c p m (edges.parent p j m at) under in
      let two = paths.under c p n (edges.parent p k n at') under' in
      sym (edges.bit p j m at) ∙ (ap (bit_of t) (same_Some _ _ (sym one ∙ two)) ∙ edges.bit p k n at')

  pub some_under : (p k : ℕ) (m : Child) → child_at t p k ≡ Some m → (c : ℕ) × IsUnder t c m
  some_under p k (Cpu d) at = (d.0, refl)
  some_under p k (Group h) at =
      let within = (edge_laws t planned).group_within h.0 p ((edge_laws t planned).parent p k (Group h) at) in
      let cpu = paths.some_cpu h.0 (omega (arith, within)) in
      (cpu.0, (level_of t h.0, cpu.2))

  -- ---- the order of CPUs

  ranks : (m n : Child) → StandsBefore (groups_of t) m n → rank t m < rank t n
  ranks m n at = omega (arith, at.before, rank_is t planned at.first m at.at_first, rank_is t planned at.second n at.at_second)

  -- children of two groups, and of one
  apart : (p q k j : ℕ) (m n : Child) → child_at t p k ≡ Some m → child_at t q j ≡ Some n → p < q → rank t m < rank t n
  apart p q k j m n at at' before =
      ranks m n (two_groups (groups_of t) p q k j m n (children_of t p) (children_of t q) (group_at t planned p (group_of_child t planned p k m at)) at (group_at t planned q (group_of_child t planned q j n at')) at' before)

  together : (p k j : ℕ) (m n : Child) → child_at t p k ≡ Some m → child_at t p j ≡ Some n → k < j → rank t m < rank t n
  together p k j m n at at' before =
      ranks m n (one_group (groups_of t) p k j m n (children_of t p) (group_at t planned p (group_of_child t planned p k m at)) at at' before)

  cpus_up : (c d : ℕ) → rank t (of_cpu c) < rank t (of_cpu d) → c < d
  unfolding rank
  cpus_up c d up = ⊎_elim (λ low. low) (λ high. absurd (omega (arith, up, rank_up (free_in t) 0 d c high))) (cases_lt c d)

  groups_up : (g h : ℕ) → rank t (of_group g) < rank t (of_group h) → g < h
  unfolding rank
  groups_up g h up = omega (arith, up)

  -- the CPUs below groups of one level are in the order of the groups
  level_order : (l c d g h : ℕ) → group_at_of t c l ≡ Some g → group_at_of t d l ≡ Some h → g < h → c < d
  level_order zero c d g h at at' before =
      let one = (has_child t planned g (of_cpu c) (sym (paths.leaf c) ∙ at)).1 in
      let two = (has_child t planned h (of_cpu d) (sym (paths.leaf d) ∙ at')).1 in
      cpus_up c d (apart g h one.0 two.0 (of_cpu c) (of_cpu d) one.1 two.1 before)
  level_order (suc l) c d g h at at' before =
      let one = below t (cut_laws t planned) (edge_laws t planned) (level_laws t planned) c l g at in
      let two = below t (cut_laws t planned) (edge_laws t planned) (level_laws t planned) d l h at' in
      let here = (has_child t planned g (of_group one.0) one.2).1 in
      let there = (has_child t planned h (of_group two.0) two.2).1 in
      level_order l c d one.0 two.0 one.1 two.1 (groups_up one.0 two.0 (apart g h here.0 there.0 (of_group one.0) (of_group two.0) here.1 there.1 before))

  pub levels_up : (c d g h : ℕ) → IsBelow t c g → IsBelow t d h → level_of t g ≡ level_of t h → g < h → c < d
  levels_up c d g h on on' same before =
      level_order (level_of t g) c d g h (paths.below c g on) (ap (group_at_of t d) same ∙ paths.below d h on') before

  ascending : (c d p j k : ℕ) (m n : Child) → child_at t p j ≡ Some m → child_at t p k ≡ Some n → IsUnder t c m →
      IsUnder t d n → j < k → c < d
  ascending c d p j k (Cpu a) (Cpu b) at at' under under' before =
      omega (arith, cpus_up a.0 b.0 (together p j k (Cpu a) (Cpu b) at at' before), under, under')
  ascending c d p j k (Cpu a) (Group b) at at' under under' before =
      let edges = edge_laws t planned in
      absurd (omega (arith, (level_laws t planned).leaf a.0 p (edges.parent p j (Cpu a) at), (level_laws t planned).parent b.0 p (edges.parent p k (Group b) at')))
  ascending c d p j k (Group a) (Cpu b) at at' under under' before =
      let edges = edge_laws t planned in
      absurd (omega (arith, (level_laws t planned).leaf b.0 p (edges.parent p k (Cpu b) at'), (level_laws t planned).parent a.0 p (edges.parent p j (Group a) at)))
  ascending c d p j k (Group a) (Group b) at at' under under' before =
      let edges = edge_laws t planned in
      let levels = level_laws t planned in
      levels_up c d a.0 b.0 under under' (omega (arith, levels.parent a.0 p (edges.parent p j (Group a) at), levels.parent b.0 p (edges.parent p k (Group b) at')))
      (groups_up a.0 b.0 (together p j k (Group a) (Group b) at at' before))

  all_below : (c g : ℕ) → IsTop t g → is_placed_in t c ≡ true → IsBelow t c g
  all_below c g last is =
      (level_of t g, paths.top c (level_of t g) g is (((level_laws t planned).highest g (omega (arith, last))).1 last) last)

  pub below_laws : BelowLaws t
  below_laws = record {
    tested_below = below_path;
    tested_under = under_test;
    placed = λ c g on. paths.cpu_placed c on.0 g on.1;
    child = below_child;
    group = child_below;
    one_child = one_child;
    ascending = ascending;
    level_ascending = levels_up;
    top = all_below;
    some_cpu = some_under;
  }
