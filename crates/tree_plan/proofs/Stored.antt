-- the stored groups and links say what the tree says
use Rattle.std.proofs.Common.{◌≡◌, ℕ, zero, suc, ◌+◌, ◌-◌, ◌<◌, ◌≤◌, ⊎_elim, List, [], ◌∷◌, ◌++◌, length, map, refl, sym, ◌∙◌, ap, subst, arith, zero-add, add-zero, length-append}
use Rattle.std.specs.Prelude.{◌*◌, ◌↔◌, Bool, true, false, is_some, Option, Some, None, slice_get, option_map, option_copied, position}
use Rattle.std.specs.FinSet.{contains}
use Rattle.std.proofs.lemmas.Bool.{cases_lt, cases_Bool, both_ways, cond-true, cond-false, true≢false}
use Rattle.std.proofs.lemmas.Option.{none-some, same_Some, slice_get-map, slice_get_past, slice_get_read}
use Rattle.std.specs.Borrow.{Bor}
use Rattle.std.specs.Slice.{IsGetResult}
use Rattle.std.proofs.lemmas.List.{length-map, map-append}
use Rattle.tree_plan.specs.declared.cutting.Group.{Group}
use Rattle.tree_plan.specs.declared.cutting.Link.{Link}
use Rattle.tm_base.specs.declared.names.Child.{Child}
use Rattle.tm_base.specs.Children.{of_cpu, of_group}
use Rattle.tm_base.specs.CpuSet.{Cpus}
use Rattle.tm_base.specs.declared.names.CpuId.{CpuId}
use Rattle.tree_plan.specs.Shape.{Shape, IsPlanned, IsWithinLimits, joined, placed_from, tree_of}
use Rattle.tree_plan.specs.Paths.{cpu_count_of, is_placed_in, placed_of, group_count_of, level_count_of, groups_of, level_in, place_in, level_of, place_of, children_of, child_count_of, child_at, parent_of, bit_in, bit_of, IsTop}
use Rattle.tree_plan.specs.Store.{listed, listed_levels, lengths, links_from, firsts_from, first_child_of, cpu_ids, group_of, link_of, seat_link, seat_links, IsStored}
use Rattle.std.proofs.lemmas.List.FromFn.{length-map-range_with_len}
use Rattle.tree_plan.proofs.Gets.{get_either, get_within, get_some, get_left, get_right, get_range}
use Rattle.tree_plan.proofs.Seats.{has, seat_of, length-links_from}
use Rattle.tree_plan.proofs.Stacks.{first_level, later_level, first_place, later_place}
use Rattle.tree_plan.proofs.Children.{get-firsts, length-firsts}
use Rattle.tree_plan.proofs.Placed.{is_placed, placed_parts}
use Rattle.tree_plan.proofs.Trees.{some_cpus, rank, group_at, cpu_there, group_there, child_total, alone, cpu_placed, cut_laws, edge_laws, level_laws}

length-listed : (level place : ℕ) (ns : List ℕ) → length (listed level place ns) ≡ length ns
unfolding listed
length-listed level place [] = refl
length-listed level place (n ∷ ns) = ap suc (length-listed level (suc place) ns)

get-listed : (level place : ℕ) (ns : List ℕ) (i n : ℕ) → slice_get ns i ≡ Some n →
    slice_get (listed level place ns) i ≡ Some (record { level = level; place = place + i; children = n })
unfolding listed
get-listed level place [] i n e = absurd (none-some n e)
get-listed level place (m ∷ ns) zero n e =
    λ i. Some (record { level = level; place = sym (add-zero place) i; children = same_Some m n e i })
get-listed level place (m ∷ ns) (suc i) n e =
    let on : suc place + i ≡ place + suc i = omega arith in
    get-listed level (suc place) ns i n e ∙ ap (λ k. Some (record { level = level; place = k; children = n })) on

length-listed_levels : (l : ℕ) (levels : List (List (List Child))) →
    length (listed_levels l (lengths levels)) ≡ length (joined levels)
unfolding listed_levels
length-listed_levels l [] = refl
length-listed_levels l (level ∷ above) =
    length-append (listed l 0 (map length level)) (listed_levels (suc l) (lengths above))
    ∙ ((λ i. (length-listed l 0 (map length level) ∙ length-map level length) i + length-listed_levels (suc l) above i) ∙ sym (length-append level (joined above)))

get-listed_levels : (l : ℕ) (levels : List (List (List Child))) (g : ℕ) (run : List Child) →
    slice_get (joined levels) g ≡ Some run →
    slice_get (listed_levels l (lengths levels)) g ≡ Some (record { level = l + level_in levels g; place = place_in levels g; children = length run })
unfolding listed_levels
get-listed_levels l [] g run e = absurd (none-some run e)
get-listed_levels l (level ∷ above) g run e =
    let here = listed l 0 (map length level) in
    let later = listed_levels (suc l) (lengths above) in
    let count : length here ≡ length level = length-listed l 0 (map length level) ∙ length-map level length in
    ⊎_elim (λ low.
    let inside = get_within level g run low in
    let at_level : l ≡ l + level_in (level ∷ above) g = omega (arith, first_level level above g inside) in
    let at_place : 0 + g ≡ place_in (level ∷ above) g = zero-add g ∙ sym (first_place level above g inside) in
    get_left here later g (record { level = l; place = 0 + g; children = length run }) (get-listed l 0 (map length level) g (length run) (slice_get-map length level g ∙ ap (option_map length) low))
    ∙ (λ i. Some (record { level = at_level i; place = at_place i; children = length run })))
    (λ high.
    let h = high.0 in
    let at_level : suc l + level_in above h ≡ l + level_in (level ∷ above) g = omega (arith, later_level level above g h high.1) in
    let at_place : place_in above h ≡ place_in (level ∷ above) g = sym (later_place level above g h high.1) in
    ap (slice_get (here ++ later)) (high.1 ∙ ap (λ n. n + h) (sym count))
    ∙ (get_right here later h ∙ (get-listed_levels (suc l) above h run high.2 ∙ (λ i. Some (record { level = at_level i; place = at_place i; children = length run })))))
    (get_either level (joined above) g run e)

-- what a link says of a child, and what the want of one says
by_parent : {P : Type 0} (t : Shape) (m : Child) → (parent_of t m ≡ None → P) →
    ((p : ℕ) → parent_of t m ≡ Some p → P) → P
by_parent {P} t m none some = go (parent_of t m) refl
  where
    go : (o : Option ℕ) → parent_of t m ≡ o → P
    go None e = none e
    go (Some p) e = some p e

abbrev link_to_parent : Shape → Child → ℕ → Link
link_to_parent t m p = record { parent = record { 0 = p }; bit = bit_of t m }

pub parent_linked : (t : Shape) (m : Child) (l : Link) → Some l ≡ link_of t m → Some (l.parent.0) ≡ parent_of t m
parent_linked t m l e =
    by_parent t m (λ none. absurd (none-some l (sym (e ∙ ap (option_map (link_to_parent t m)) none))))
    (λ p some. ap (λ (k : Link). Some (k.parent.0)) (same_Some _ _ (e ∙ ap (option_map (link_to_parent t m)) some)) ∙ sym some)

pub bit_linked : (t : Shape) (m : Child) (l : Link) → Some l ≡ link_of t m → l.bit ≡ bit_of t m
bit_linked t m l e =
    by_parent t m (λ none. absurd (none-some l (sym (e ∙ ap (option_map (link_to_parent t m)) none))))
    (λ p some. ap (λ (k : Link). k.bit) (same_Some _ _ (e ∙ ap (option_map (link_to_parent t m)) some)))

pub parent_unlinked : (t : Shape) (m : Child) → None ≡ link_of t m → parent_of t m ≡ None
parent_unlinked t m e =
    by_parent t m (λ none. none) (λ p some. absurd (none-some (link_to_parent t m p) (e ∙ ap (option_map (link_to_parent t m)) some)))

pub bit_unlinked : (t : Shape) (m : Child) → None ≡ link_of t m → 0 ≡ bit_of t m
unfolding bit_of bit_in
bit_unlinked t m e = sym (ap (bit_in t m) (parent_unlinked t m e))

-- what `get` and `copied` give of a list
pub copied_get : {X : Type 0} (xs : List X) (i : ℕ) (r : Option (Bor X)) → IsGetResult xs i i r →
    option_copied r ≡ slice_get xs i
copied_get xs i None h = sym (slice_get_past xs i h.3)
copied_get xs i (Some x) h = sym (slice_get_read xs (length xs) i x.now refl h.3.0 h.1)

pub planned_tree : (nodes cpus : ℕ) (isolated : Cpus) → IsWithinLimits nodes cpus isolated →
    IsPlanned (tree_of nodes cpus isolated)
planned_tree nodes cpus isolated limits = record { limits = limits; tree = refl }

-- ---- what is stored of a planned tree

module _ (t : Shape) (planned : IsPlanned t) where
  listed_group : (g : ℕ) → g < group_count_of t →
      slice_get (listed_levels 0 (lengths t.levels)) g ≡ Some (group_of t g)
  unfolding groups_of
  listed_group g inside =
      get-listed_levels 0 t.levels g (children_of t g) (group_at t planned g inside)
      ∙ ap (λ l. Some (record { level = l; place = place_of t g; children = child_count_of t g })) (zero-add (level_of t g))

  -- a child's link leads to where it stands
  listed_link : (i : ℕ) (m : Child) → slice_get (joined (groups_of t)) i ≡ Some m →
      slice_get (links_from 0 (map length (groups_of t))) i ≡ link_of t m
  listed_link i m e =
      let seat = seat_of 0 (groups_of t) i m e in
      let edges = edge_laws t planned in
      let run : children_of t seat.group ≡ seat.run = same_Some _ _ (sym (group_at t planned seat.group (get_within (groups_of t) seat.group seat.run seat.in_group)) ∙ seat.in_group) in
      let child : child_at t seat.group seat.bit ≡ Some m = ap (λ ms. slice_get ms seat.bit) run ∙ seat.at_bit in
      let to_group : ℕ → ℕ → Option Link = λ p k. Some (record { parent = record { 0 = p }; bit = k }) in
      seat.linked ∙ (ap (λ p. to_group p seat.bit) (zero-add seat.group)
      ∙ (ap (to_group seat.group) (sym (edges.bit seat.group seat.bit m child))
      ∙ ap (option_map (λ p. record { parent = record { 0 = p }; bit = bit_of t m })) (sym (edges.parent seat.group seat.bit m child))))

  -- nobody has a parent in a tree without levels
  no_parent : (m : Child) → t.levels ≡ [] → parent_of t m ≡ None
  unfolding parent_of groups_of
  no_parent m none = ap (λ levels. position (has m) (joined levels)) none

  no_links : t.levels ≡ [] → links_from 0 (map length (groups_of t)) ≡ []
  unfolding groups_of links_from
  no_links none = ap (λ levels. links_from 0 (map length (joined levels))) none

  unlinked : (m : Child) → parent_of t m ≡ None → None ≡ link_of t m
  unlinked m none = ap (option_map (λ p. record { parent = record { 0 = p }; bit = bit_of t m })) (sym none)

  -- a placed CPU's link stands at its rank
  placed_link : (c : ℕ) → is_placed_in t c ≡ true →
      slice_get (links_from 0 (map length (groups_of t))) (length (placed_from t.isolated 0 c)) ≡ link_of t (of_cpu c)
  unfolding rank
  placed_link c placed =
      ⊎_elim (λ more. listed_link (rank t (of_cpu c)) (of_cpu c) (cpu_there t planned c more placed))
      (λ few.
      let none = alone t planned (omega (arith, some_cpus t planned)) in
      ap (λ ls. slice_get ls (length (placed_from t.isolated 0 c))) (no_links none) ∙ unlinked (of_cpu c) (no_parent (of_cpu c) none))
      (cases_lt 1 (length (placed_of t)))

  -- an isolated CPU has none
  isolated_link : (c : ℕ) → contains t.isolated c ≡ true → None ≡ link_of t (of_cpu c)
  isolated_link c isolated =
      by_parent t (of_cpu c) (λ none. unlinked (of_cpu c) none)
      (λ p some. absurd (both_ways (contains t.isolated c) (placed_parts t c (cpu_placed t planned c p some)).1 isolated))

  seat_of_cpu : (c : ℕ) → c < cpu_count_of t →
      seat_link t.isolated (links_from 0 (map length (groups_of t))) c ≡ link_of t (of_cpu c)
  seat_of_cpu c inside =
      let links = links_from 0 (map length (groups_of t)) in
      let here = slice_get links (length (placed_from t.isolated 0 c)) in
      ⊎_elim (λ isolated. cond-true (contains t.isolated c) None here isolated ∙ isolated_link c isolated)
      (λ free. cond-false (contains t.isolated c) None here free ∙ placed_link c (is_placed t c inside free))
      (cases_Bool (contains t.isolated c))

  group_link_of : (g : ℕ) → g < group_count_of t →
      slice_get (links_from 0 (map length (groups_of t))) (length (placed_of t) + g) ≡ link_of t (of_group g)
  group_link_of g inside =
      ⊎_elim (λ below. listed_link (length (placed_of t) + g) (of_group g) (group_there t planned g below))
      (λ top. slice_get_past (links_from 0 (map length (groups_of t))) (length (placed_of t) + g) (omega (arith, length-links_from 0 (groups_of t), child_total t planned (omega arith)))
      ∙ unlinked (of_group g) ((edge_laws t planned).top_parent g (omega arith)))
      (cases_lt (suc g) (group_count_of t))

  -- a group has no link exactly where it is the top
  pub top_where : (g : ℕ) → g < group_count_of t → (linked : Bool) → linked ≡ is_some (link_of t (of_group g)) →
      (linked ≡ false) ↔ IsTop t g
  top_where g inside linked e =
      by_parent t (of_group g)
      (λ none. (
        λ _. ⊎_elim (λ below.
            let up = (edge_laws t planned).group_parent g below in
            absurd (none-some up.0 (sym none ∙ up.1))) (λ top. omega arith) (cases_lt (suc g) (group_count_of t)),
        λ _. e ∙ ap (λ o. is_some (option_map (link_to_parent t (of_group g)) o)) none,
      ))
      (λ p some.
      let linked_is : linked ≡ true = e ∙ ap (λ o. is_some (option_map (link_to_parent t (of_group g)) o)) some in
      (λ not_linked. absurd (true≢false (sym linked_is ∙ not_linked)), λ last. absurd (omega (arith, last, (edge_laws t planned).group_within g p some))))

module _ (nodes cpus : ℕ) (isolated : Cpus) (placed : List CpuId) (groups : List Group) (firsts : List ℕ) (links : List Link) (seats : List (Option Link)) (stored : IsStored nodes cpus isolated placed groups firsts links seats) (t : Shape) (view : tree_of nodes cpus isolated ≡ t) where
  pub is_planned : IsPlanned t
  is_planned = subst IsPlanned view (planned_tree nodes cpus isolated stored.limits)

  pub group_total : length groups ≡ group_count_of t
  unfolding groups_of
  group_total = ap length stored.all_groups ∙ (length-listed_levels 0 (tree_of nodes cpus isolated).levels ∙ ap (λ (s : Shape). length (joined s.levels)) view)

  pub cpu_total : nodes * cpus ≡ cpu_count_of t
  cpu_total = ap cpu_count_of view

  pub same_isolated : isolated ≡ t.isolated
  same_isolated = ap (λ (s : Shape). s.isolated) view

  -- a stored group
  pub group_is : (g : ℕ) → g < group_count_of t → slice_get groups g ≡ Some (group_of t g)
  group_is g inside =
      ap (λ gs. slice_get gs g) stored.all_groups ∙ (ap (λ (s : Shape). slice_get (listed_levels 0 (lengths s.levels)) g) view ∙ listed_group t is_planned g inside)

  all_links : links ≡ links_from 0 (map length (groups_of t))
  all_links = stored.all_links ∙ ap (λ s. links_from 0 (map length (groups_of s))) view

  pub seat_total : length seats ≡ cpu_count_of t
  seat_total = ap length stored.all_seats ∙ (length-map-range_with_len (seat_link isolated links) 0 (nodes * cpus) ∙ cpu_total)

  -- the placed CPUs
  pub placed_is : placed ≡ cpu_ids (placed_of t)
  placed_is = stored.all_placed ∙ ap (λ s. cpu_ids (placed_of s)) view

  pub placed_total : length placed ≡ length (placed_of t)
  placed_total = ap length placed_is ∙ length-map (placed_of t) (λ n. record { 0 = n })

  -- the link of a CPU
  pub cpu_link : (c : ℕ) → c < cpu_count_of t → slice_get seats c ≡ Some (link_of t (of_cpu c))
  cpu_link c inside =
      ap (λ ls. slice_get ls c) stored.all_seats
      ∙ (get_range (seat_link isolated links) 0 (nodes * cpus) c (omega (arith, cpu_total))
      ∙ ((λ i. Some (seat_link (same_isolated i) (all_links i) (zero-add c i))) ∙ ap Some (seat_of_cpu t is_planned c inside)))

  -- the link of a group
  pub group_link : (g : ℕ) → g < group_count_of t → slice_get links (length placed + g) ≡ link_of t (of_group g)
  group_link g inside =
      (λ i. slice_get (all_links i) (placed_total i + g)) ∙ group_link_of t is_planned g inside

  -- the first child of a group
  pub first_total : length firsts ≡ group_count_of t
  first_total =
      ap length stored.all_firsts
      ∙ (length-firsts 0 (map length (groups_of (tree_of nodes cpus isolated)))
      ∙ (length-map (groups_of (tree_of nodes cpus isolated)) length ∙ ap group_count_of view))

  pub first_is : (g : ℕ) → g < group_count_of t → slice_get firsts g ≡ Some (first_child_of t g)
  first_is g inside =
      ap (λ fs. slice_get fs g) stored.all_firsts
      ∙ (ap (λ (s : Shape). slice_get (firsts_from 0 (map length (groups_of s))) g) view
      ∙ (get-firsts 0 (map length (groups_of t)) g (omega (arith, length-map (groups_of t) length, inside)) ∙ ap (λ k. Some k) (zero-add (first_child_of t g))))

  -- the last group is the top, on the highest level
  pub top_level : (top : Group) → slice_get groups (length groups - 1) ≡ Some top → top.level + 1 ≡ level_count_of t
  top_level top e =
      let inside = get_within groups (length groups - 1) top e in
      let g = length groups - 1 in
      let within : g < group_count_of t = omega (arith, inside, group_total) in
      let kept : level_of t g ≡ top.level = ap (λ (x : Group). x.level) (same_Some _ _ (sym (group_is g within) ∙ e)) in
      omega (arith, kept, ((level_laws t is_planned).highest g within).1 (omega (arith, inside, group_total)))

  pub no_level : slice_get groups (length groups - 1) ≡ None → 0 ≡ level_count_of t
  no_level e =
      ⊎_elim (λ some.
      let top = get_some groups (length groups - 1) (omega (arith, group_total, (cut_laws t is_planned).some_group some)) in
      absurd (none-some top.0 (sym e ∙ top.1)))
      (λ none. omega arith)
      (cases_lt 0 (level_count_of t))

-- ---- a plan

child_counts : (level place : ℕ) (ns : List ℕ) → map (λ (g : Group). g.children) (listed level place ns) ≡ ns
unfolding listed
child_counts level place [] = refl
child_counts level place (n ∷ ns) = ap (λ ms. n ∷ ms) (child_counts level (suc place) ns)

all_child_counts : (l : ℕ) (levels : List (List (List Child))) →
    map (λ (g : Group). g.children) (listed_levels l (lengths levels)) ≡ map length (joined levels)
unfolding listed_levels
all_child_counts l [] = refl
all_child_counts l (level ∷ above) =
    map-append (λ (g : Group). g.children) (listed l 0 (map length level)) (listed_levels (suc l) (lengths above))
    ∙ ((λ i. child_counts l 0 (map length level) i ++ all_child_counts (suc l) above i) ∙ sym (map-append length level (joined above)))

-- the groups that were cut are few
pub plan_total : (nodes cpus : ℕ) (isolated : Cpus) (groups : List Group) → IsWithinLimits nodes cpus isolated →
    groups ≡ listed_levels 0 (lengths (tree_of nodes cpus isolated).levels) → length groups ≤ 73
unfolding groups_of
plan_total nodes cpus isolated groups limits made =
    omega (arith, ap length made, length-listed_levels 0 (tree_of nodes cpus isolated).levels, (cut_laws (tree_of nodes cpus isolated) (planned_tree nodes cpus isolated limits)).at_most_73_groups)

-- the first children of the groups that were cut, and the links of their children
pub plan_firsts : (nodes cpus : ℕ) (isolated : Cpus) (groups given : List Group) (firsts : List ℕ) →
    groups ≡ listed_levels 0 (lengths (tree_of nodes cpus isolated).levels) → given ≡ groups →
    firsts ≡ firsts_from 0 (map (λ (g : Group). g.children) given) → firsts ≡ firsts_from 0 (map length (groups_of (tree_of nodes cpus isolated)))
unfolding groups_of
plan_firsts nodes cpus isolated groups given firsts made same counted =
    counted ∙ ap (firsts_from 0) (ap (map (λ (g : Group). g.children)) (same ∙ made) ∙ all_child_counts 0 (tree_of nodes cpus isolated).levels)

pub plan_links : (nodes cpus : ℕ) (isolated : Cpus) (groups given : List Group) (links : List Link) →
    groups ≡ listed_levels 0 (lengths (tree_of nodes cpus isolated).levels) → given ≡ groups →
    links ≡ links_from 0 (map (λ (g : Group). g.children) given) → links ≡ links_from 0 (map length (groups_of (tree_of nodes cpus isolated)))
unfolding groups_of
plan_links nodes cpus isolated groups given links made same linked =
    linked ∙ ap (links_from 0) (ap (map (λ (g : Group). g.children)) (same ∙ made) ∙ all_child_counts 0 (tree_of nodes cpus isolated).levels)

-- and with the links of the CPUs they are the tree
pub plan_stored : (nodes cpus : ℕ) (isolated copy : Cpus) (count : ℕ) (placed : List CpuId) (groups : List Group) (firsts : List ℕ) (links given : List Link) (seats : List (Option Link)) →
    IsWithinLimits nodes cpus isolated → copy ≡ isolated → count ≡ nodes * cpus →
    placed ≡ cpu_ids (placed_from isolated 0 count) →
    groups ≡ listed_levels 0 (lengths (tree_of nodes cpus isolated).levels) →
    firsts ≡ firsts_from 0 (map length (groups_of (tree_of nodes cpus isolated))) →
    links ≡ links_from 0 (map length (groups_of (tree_of nodes cpus isolated))) → given ≡ links →
    seats ≡ seat_links isolated given count → IsStored nodes cpus copy placed groups firsts links seats
plan_stored nodes cpus isolated copy count placed groups firsts links given seats limits same counted free made begun linked lent seated =
    subst (λ set. IsStored nodes cpus set placed groups firsts links seats) (sym same) (record {
      limits = limits;
      all_placed = free ∙ ap (λ n. cpu_ids (placed_from isolated 0 n)) counted;
      all_groups = made;
      all_firsts = begun;
      all_links = linked;
      all_seats = seated ∙ (λ i. seat_links isolated (lent i) (counted i));
    })
