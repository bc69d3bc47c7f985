-- what a tree says of its groups and CPUs
use Rattle.std.specs.Prelude.{◌≡◌, ℕ, zero, suc, ◌-◌, ◌*◌, ◌/◌, ◌==◌, nat_lt, if◌then◌else◌, Bool}
use Rattle.std.specs.Prelude.{not, ◌&&◌, List, [], ◌∷◌, length, Option, Some, None, is_some}
use Rattle.std.specs.Prelude.{unwrap_or, slice_get, slice_index_or, option_map, option_and_then}
use Rattle.std.specs.Prelude.{position, filter_map}
use Rattle.std.specs.List.{range_with_len, position_or_len, list_any}
use Rattle.std.specs.FinSet.{contains}
use Rattle.tm_base.specs.declared.names.Child.{Child}
use Rattle.tm_base.specs.declared.names.Child.TheVariants.{Cpu, Group}
use Rattle.tm_base.specs.Children.{of_cpu, of_group, same_child}
use Rattle.tree_plan.specs.Shape.{Shape, joined, levels_for, placed_from}

-- all groups in the order of their numbers, which go level by level from the leaves.
-- Each is the list of its children in the order of their child numbers
unfoldable pub groups_of : Shape → List (List Child)
groups_of t = joined t.levels

-- CPUs have the numbers below this one
abbrev pub cpu_count_of : Shape → ℕ
cpu_count_of t = t.nodes * t.cpus

-- whether CPU c is placed: it is a CPU of the machine, and isn't isolated
abbrev pub is_placed_in : Shape → (c : ℕ) → Bool
is_placed_in t c = nat_lt c (cpu_count_of t) && not (contains t.isolated c)

-- the placed CPUs in ascending order
abbrev pub placed_of : Shape → List ℕ
placed_of t = placed_from t.isolated 0 (cpu_count_of t)

-- the node of CPU c
abbrev pub node_of : Shape → (c : ℕ) → ℕ
node_of t c = c / t.cpus

-- groups at levels below this number have the CPUs of one node; the levels from there on group
-- across nodes
abbrev pub node_levels_of : Shape → ℕ
node_levels_of t = levels_for t.cpus

-- how many groups the tree has
abbrev pub group_count_of : Shape → ℕ
group_count_of t = length (groups_of t)

-- how many levels of groups the tree has
abbrev pub level_count_of : Shape → ℕ
level_count_of t = length t.levels

-- the level at which the g-th group of these levels stands, the lowest of them counted as 0
unfoldable pub level_in : List (List (List Child)) → ℕ → ℕ
level_in [] g = 0
level_in (level ∷ above) g =
    if nat_lt g (length level) then 0 else (suc (level_in above (g - length level)))

-- how many groups of its level stand before the g-th group of these levels
unfoldable pub place_in : List (List (List Child)) → ℕ → ℕ
place_in [] g = 0
place_in (level ∷ above) g =
    if nat_lt g (length level) then g else place_in above (g - length level)

-- the level of group g, 0 for a leaf
abbrev pub level_of : Shape → ℕ → ℕ
level_of t g = level_in t.levels g

-- the place of group g in its level, from 0
abbrev pub place_of : Shape → ℕ → ℕ
place_of t g = place_in t.levels g

-- the children of group g, by their child numbers
unfoldable pub children_of : Shape → ℕ → List Child
children_of t g = slice_index_or (groups_of t) g []

-- how many children group g has
abbrev pub child_count_of : Shape → ℕ → ℕ
child_count_of t g = length (children_of t g)

-- the child of group g with the child number k
abbrev pub child_at : Shape → ℕ → ℕ → Option Child
child_at t g k = slice_get (children_of t g) k

-- the group that has this child: the leaf of a CPU, or the parent of a group
unfoldable pub parent_of : Shape → Child → Option ℕ
parent_of t m = position (λ children. list_any (same_child m) children) (groups_of t)

-- the child number of m in this group, and 0 without a group
unfoldable pub bit_in : Shape → Child → Option ℕ → ℕ
bit_in t m None = 0
bit_in t m (Some g) = position_or_len (same_child m) (children_of t g)

-- the child number of a child in its parent; 0 where it has none (the kernel: childmask, a bit of
-- that number)
unfoldable pub bit_of : Shape → Child → ℕ
bit_of t m = bit_in t m (parent_of t m)

-- group g is the top, which has the last number
abbrev pub IsTop : Shape → ℕ → Type 0
IsTop t g = suc g ≡ group_count_of t

-- the top, and None without groups
abbrev pub top_of : Shape → Option ℕ
top_of t = if group_count_of t == 0 then None else Some (group_count_of t - 1)

-- the group of CPU c's path at level l: at level 0 its leaf, and then each time the parent
unfoldable pub group_at_of : Shape → (c l : ℕ) → Option ℕ
group_at_of t c zero = parent_of t (of_cpu c)
group_at_of t c (suc l) = option_and_then (λ g. parent_of t (of_group g)) (group_at_of t c l)

-- the child through which CPU c's path goes at level l: the CPU itself at a leaf, and elsewhere the
-- group one level below
unfoldable pub child_towards : Shape → (c l : ℕ) → Option Child
child_towards t c zero = Some (of_cpu c)
child_towards t c (suc l) = option_map of_group (group_at_of t c l)

-- the child number of that child in the group of that level, and 0 without one
abbrev pub bit_towards : Shape → (c l : ℕ) → ℕ
bit_towards t c l = unwrap_or (option_map (bit_of t) (child_towards t c l)) 0

-- whether CPU c has a group
abbrev pub has_group_in : Shape → (c : ℕ) → Bool
has_group_in t c = is_some (group_at_of t c 0)

-- the path of CPU c: its groups from the leaf to the top
unfoldable pub path_of : Shape → ℕ → List ℕ
path_of t c = filter_map (group_at_of t c) (range_with_len 0 (level_count_of t))

-- CPU c is below group g: the group is on its path
abbrev pub IsBelow : Shape → (c g : ℕ) → Type 0
IsBelow t c g = (l : ℕ) × (group_at_of t c l ≡ Some g)

-- CPU c is this child or below it
abbrev pub IsUnder : Shape → ℕ → Child → Type 0
IsUnder t c (Cpu d) = c ≡ d.0
IsUnder t c (Group g) = IsBelow t c g.0

-- whether CPU c is below group g
abbrev pub is_below : Shape → (c g : ℕ) → Bool
is_below t c g = list_any (λ h. h == g) (path_of t c)

-- whether CPU c is this child or below it
abbrev pub is_under : Shape → ℕ → Child → Bool
is_under t c (Cpu d) = c == d.0
is_under t c (Group g) = is_below t c g.0
