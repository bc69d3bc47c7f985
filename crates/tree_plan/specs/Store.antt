-- how a tree is kept (no public clause cites it): its groups in the order of their numbers, and for
-- each child, the placed CPUs first and then the groups, the group that has it and its child number
-- there; the same once more for each CPU by its number; for each group, which of all children its
-- first one is
use Rattle.std.specs.Prelude.{◌≡◌, ℕ, zero, suc, ◌+◌, ◌-◌, ◌*◌, ◌/◌, min, nat_lt}
use Rattle.std.specs.Prelude.{if◌then◌else◌, List, [], ◌∷◌, ◌++◌, length, map}
use Rattle.std.specs.Prelude.{flat_map, sum, Option, None, option_map, slice_get}
use Rattle.std.specs.List.{range_with_len}
use Rattle.std.specs.FinSet.{contains}
use Rattle.tm_base.specs.declared.names.Child.{Child}
use Rattle.tm_base.specs.declared.names.CpuId.{CpuId}
use Rattle.tm_base.specs.CpuSet.{Cpus}
use Rattle.tree_plan.specs.declared.cutting.Group.{Group}
use Rattle.tree_plan.specs.declared.cutting.Link.{Link}
use Rattle.tree_plan.specs.Shape.{Shape, IsWithinLimits, placed_from, tree_of}
use Rattle.tree_plan.specs.Paths.{placed_of, groups_of, level_of, place_of, child_count_of}
use Rattle.tree_plan.specs.Paths.{parent_of, bit_of}

-- the lengths of n runs of eight of a list of m, as far as it goes
unfoldable pub lengths_of : (n m : ℕ) → List ℕ
lengths_of zero m = []
lengths_of (suc n) m = min 8 m ∷ lengths_of n (m - 8)

-- how many groups a row of m members is cut into, and how many children each of them has
abbrev pub groups_for : ℕ → ℕ
groups_for m = (m + 7) / 8

-- how many children each group has into which a row of m members is cut
abbrev pub run_lengths : ℕ → List ℕ
run_lengths m = lengths_of (groups_for m) m

-- how many members each row has that level l cuts, where the nodes have so many
abbrev pub row_lengths_at : (inner l : ℕ) → List ℕ → List ℕ
row_lengths_at inner l rows = if nat_lt l inner then rows else (sum rows ∷ [])

-- groups of one level with these numbers of children, from a place in it on
unfoldable pub listed : (level place : ℕ) → List ℕ → List Group
listed level place [] = []
listed level place (n ∷ ns) =
    record { level = level; place = place; children = n } ∷ listed level (suc place) ns

-- the groups of these levels, the lowest of which is `level`
unfoldable pub listed_levels : ℕ → List (List ℕ) → List Group
listed_levels level [] = []
listed_levels level (ns ∷ above) = listed level 0 ns ++ listed_levels (suc level) above

-- the groups of one row of so many members, the first of them at this place of its level
abbrev pub row_groups : (level first members : ℕ) → List Group
row_groups level first members = listed level first (run_lengths members)

-- the groups of a level that cuts rows of so many members
abbrev pub level_of_rows : (level : ℕ) → List ℕ → List Group
level_of_rows level rows = listed level 0 (flat_map run_lengths rows)

-- the groups of the next level are appended, and become the members of the level above
pub record CutsNext (inner level : ℕ) (old new : List Group) (below above : List ℕ) : Type 0 where
  pub groups : new ≡ old ++ level_of_rows level (row_lengths_at inner level below)
  pub rows : above ≡ map groups_for (row_lengths_at inner level below)

-- how many children each group of each level has
abbrev pub lengths : List (List (List Child)) → List (List ℕ)
lengths levels = map (λ level. map length level) levels

-- all groups of the tree of a machine
abbrev pub groups_planned : (nodes cpus : ℕ) → Cpus → List Group
groups_planned nodes cpus isolated = listed_levels 0 (lengths (tree_of nodes cpus isolated).levels)

-- the links of n children to group g
unfoldable pub links_to : (g n : ℕ) → List Link
links_to g n = map (λ k. record { parent = record { 0 = g }; bit = k }) (range_with_len 0 n)

-- the links of the children of groups with these numbers of children, the first of which is group g
unfoldable pub links_from : ℕ → List ℕ → List Link
links_from g [] = []
links_from g (n ∷ ns) = links_to g n ++ links_from (suc g) ns

-- a group as it is kept
abbrev pub group_of : Shape → ℕ → Group
group_of t g = record { level = level_of t g; place = place_of t g; children = child_count_of t g }

-- the link of a child to its parent, if it has one
abbrev pub link_of : Shape → Child → Option Link
link_of t m =
    option_map (λ p. record { parent = record { 0 = p }; bit = bit_of t m }) (parent_of t m)

-- how many children the groups before group g have, where the groups have these numbers of children
unfoldable pub count_before : List ℕ → (g : ℕ) → ℕ
count_before [] g = 0
count_before (n ∷ ns) zero = 0
count_before (n ∷ ns) (suc g) = n + count_before ns g

-- which of all children the first one of group g is
abbrev pub first_child_of : Shape → ℕ → ℕ
first_child_of t g = count_before (map length (groups_of t)) g

-- for each group which of all children its first one is, where the groups have these numbers of
-- children, and so many children come before
unfoldable pub firsts_from : ℕ → List ℕ → List ℕ
firsts_from next [] = []
firsts_from next (n ∷ ns) = next ∷ firsts_from (next + n) ns

-- the CPUs of these numbers
abbrev pub cpu_ids : List ℕ → List CpuId
cpu_ids ns = map (λ n. record { 0 = n }) ns

-- the links of the n CPUs from 0 on, where these are the links of the placed ones among them in
-- ascending order
abbrev pub seat_link : Cpus → List Link → ℕ → Option Link
seat_link isolated links c =
    if contains isolated c then None else slice_get links (length (placed_from isolated 0 c))

-- the links of the first n CPUs, out of those of the placed ones; none for an isolated CPU
abbrev pub seat_links : Cpus → List Link → (n : ℕ) → List (Option Link)
seat_links isolated links n = map (seat_link isolated links) (range_with_len 0 n)

-- these are the placed CPUs, the groups and the links of the tree of this machine
pub record IsStored (nodes cpus : ℕ) (isolated : Cpus) (placed : List CpuId)
    (groups : List Group) (firsts : List ℕ) (links : List Link)
    (seats : List (Option Link)) : Type 0 where
  pub limits : IsWithinLimits nodes cpus isolated
  pub all_placed : placed ≡ cpu_ids (placed_of (tree_of nodes cpus isolated))
  pub all_groups : groups ≡ groups_planned nodes cpus isolated
  pub all_firsts :
      firsts ≡ firsts_from 0 (map length (groups_of (tree_of nodes cpus isolated)))
  pub all_links : links ≡ links_from 0 (map length (groups_of (tree_of nodes cpus isolated)))
  pub all_seats : seats ≡ seat_links isolated links (nodes * cpus)
