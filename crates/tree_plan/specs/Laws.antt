-- what holds of every planned tree, for walks up and down in it
use Rattle.std.specs.Prelude.{◌≡◌, ◌↔◌, ℕ, suc, ◌-◌, ◌^◌, ◌<◌, ◌≤◌, ◌++◌, true, false, [], map}
use Rattle.std.specs.Prelude.{length, Some, None, slice_get}
use Rattle.std.specs.List.{range_with_len}
use Rattle.tm_base.specs.declared.names.Child.{Child}
use Rattle.tm_base.specs.Children.{of_cpu, of_group}
use Rattle.tree_plan.specs.Shape.{Shape, joined, log2up}
use Rattle.tree_plan.specs.Paths.{cpu_count_of, is_placed_in, placed_of, node_of, node_levels_of}
use Rattle.tree_plan.specs.Paths.{group_count_of, level_count_of, groups_of, level_of, place_of}
use Rattle.tree_plan.specs.Paths.{child_count_of, child_at, parent_of, bit_of, group_at_of}
use Rattle.tree_plan.specs.Paths.{child_towards, has_group_in, path_of, top_of, IsTop, IsBelow}
use Rattle.tree_plan.specs.Paths.{IsUnder, is_below, is_under}

-- the binary logarithm rounded up is the least m with 2 ^ m at least x
pub record LogarithmLaws (x : ℕ) : Type 0 where
  pub reaches : x ≤ 2 ^ log2up x
  pub least : (m : ℕ) → x ≤ 2 ^ m → log2up x ≤ m

-- which CPUs are placed, and who has a group
pub record PlacedLaws (t : Shape) : Type 0 where
  pub some_placed : 1 ≤ length (placed_of t)
  pub listed : (c : ℕ) →
      (is_placed_in t c ≡ true) ↔ ((i : ℕ) × (slice_get (placed_of t) i ≡ Some c))
  pub in_range : (c : ℕ) → is_placed_in t c ≡ true → c < cpu_count_of t
  -- one placed CPU alone has no group, and so there is none
  pub alone : length (placed_of t) ≡ 1 → t.levels ≡ []
  pub grouped : 1 < length (placed_of t) → 0 < level_count_of t
  -- where there is a group, every placed CPU has one, and all their paths have one height; no other
  -- CPU has any
  pub placed : (c : ℕ) → 0 < level_count_of t → is_placed_in t c ≡ true → has_group_in t c ≡ true
  pub height : (c : ℕ) → is_placed_in t c ≡ true → length (path_of t c) ≡ level_count_of t
  pub has_group : (c : ℕ) → has_group_in t c ≡ true → is_placed_in t c ≡ true
  pub isolated : (c : ℕ) → is_placed_in t c ≡ false → path_of t c ≡ []

-- what the groups are made of, and how many there are
pub record CutLaws (t : Shape) : Type 0 where
  pub some_group : 0 < level_count_of t → 0 < group_count_of t
  -- the children of all groups in the order of their numbers are the placed CPUs and then all
  -- groups but the top, both in ascending order
  pub members : 0 < level_count_of t →
      joined (groups_of t) ≡
      map of_cpu (placed_of t) ++ map of_group (range_with_len 0 (group_count_of t - 1))
  pub some_child : (g : ℕ) → g < group_count_of t → 1 ≤ child_count_of t g
  pub at_most_8 : (g : ℕ) → child_count_of t g ≤ 8
  pub at_most_3_levels : level_count_of t ≤ 3
  -- so many has the tree of 8 nodes of 64 CPUs
  pub at_most_73_groups : group_count_of t ≤ 73

-- a child stands in its parent at its child number, and nowhere else
pub record EdgeLaws (t : Shape) : Type 0 where
  -- child k of p has the parent p and the child number k
  pub parent : (p k : ℕ) (m : Child) → child_at t p k ≡ Some m → parent_of t m ≡ Some p
  pub bit : (p k : ℕ) (m : Child) → child_at t p k ≡ Some m → bit_of t m ≡ k
  -- and the parent's child at that number is the child
  pub child : (p : ℕ) (m : Child) → parent_of t m ≡ Some p → child_at t p (bit_of t m) ≡ Some m
  pub bit_within : (p : ℕ) (m : Child) → parent_of t m ≡ Some p → bit_of t m < child_count_of t p
  pub bit_below_8 : (m : Child) → bit_of t m < 8
  pub some_at : (p k : ℕ) → k < child_count_of t p → (m : Child) × (child_at t p k ≡ Some m)
  -- every placed CPU of a tree with groups has a parent, and every group but the top
  pub cpu_parent : (c : ℕ) → is_placed_in t c ≡ true → 0 < level_count_of t →
      (g : ℕ) × (parent_of t (of_cpu c) ≡ Some g)
  pub group_parent : (g : ℕ) → suc g < group_count_of t →
      (p : ℕ) × (parent_of t (of_group g) ≡ Some p)
  pub top_parent : (g : ℕ) → IsTop t g → parent_of t (of_group g) ≡ None
  pub top : (g : ℕ) → (top_of t ≡ Some g) ↔ IsTop t g
  -- and nothing else has one
  pub cpu_placed : (c g : ℕ) → parent_of t (of_cpu c) ≡ Some g → is_placed_in t c ≡ true
  pub group_within : (g p : ℕ) → parent_of t (of_group g) ≡ Some p → suc g < group_count_of t
  pub parent_within : (p : ℕ) (m : Child) → parent_of t m ≡ Some p → p < group_count_of t

-- a parent is one level higher, and one group alone is on the highest level
pub record LevelLaws (t : Shape) : Type 0 where
  pub leaf : (c g : ℕ) → parent_of t (of_cpu c) ≡ Some g → level_of t g ≡ 0
  pub parent : (g p : ℕ) → parent_of t (of_group g) ≡ Some p → level_of t p ≡ suc (level_of t g)
  pub rising : (g p : ℕ) → parent_of t (of_group g) ≡ Some p → g < p
  pub within : (g : ℕ) → g < group_count_of t → level_of t g < level_count_of t
  pub highest : (g : ℕ) → g < group_count_of t →
      (suc (level_of t g) ≡ level_count_of t) ↔ IsTop t g
  -- a level and a place in it name one group
  pub named : (g h : ℕ) → g < group_count_of t → h < group_count_of t →
      level_of t g ≡ level_of t h → place_of t g ≡ place_of t h → g ≡ h

-- a path climbs one level a step, and all paths end at the top
pub record PathLaws (t : Shape) : Type 0 where
  pub leaf : (c : ℕ) → group_at_of t c 0 ≡ parent_of t (of_cpu c)
  pub climb : (c l g : ℕ) → group_at_of t c l ≡ Some g →
      group_at_of t c (suc l) ≡ parent_of t (of_group g)
  -- a placed CPU's path has a group at every level of the tree and at no other
  pub there : (c l : ℕ) → is_placed_in t c ≡ true → l < level_count_of t →
      (g : ℕ) × (group_at_of t c l ≡ Some g)
  pub beyond : (c l : ℕ) → level_count_of t ≤ l → group_at_of t c l ≡ None
  -- an isolated CPU's path has none
  pub isolated : (c l : ℕ) → is_placed_in t c ≡ false → group_at_of t c l ≡ None
  pub level : (c l g : ℕ) → group_at_of t c l ≡ Some g → level_of t g ≡ l
  pub cpu_placed : (c l g : ℕ) → group_at_of t c l ≡ Some g → is_placed_in t c ≡ true
  pub group_within : (c l g : ℕ) → group_at_of t c l ≡ Some g → g < group_count_of t
  -- the child through which the path goes stands in the group at its child number
  pub towards : (c l g : ℕ) → group_at_of t c l ≡ Some g →
      (m : Child) × (child_towards t c l ≡ Some m) × (parent_of t m ≡ Some g)
      × (child_at t g (bit_of t m) ≡ Some m)
  -- where a path goes through a child, it goes on in the child's parent
  pub onwards : (c l : ℕ) (m : Child) → child_towards t c l ≡ Some m →
      group_at_of t c l ≡ parent_of t m
  pub reached : (c l : ℕ) (m : Child) → child_towards t c l ≡ Some m → IsUnder t c m
  -- a CPU is below a group where its path has the group at the group's level, and so with children
  pub below : (c g : ℕ) → IsBelow t c g → group_at_of t c (level_of t g) ≡ Some g
  pub under : (c p : ℕ) (m : Child) → parent_of t m ≡ Some p → IsUnder t c m →
      child_towards t c (level_of t p) ≡ Some m
  -- two paths that meet stay together
  pub meet : (c d l n g : ℕ) → group_at_of t c l ≡ Some g → group_at_of t d l ≡ Some g → l ≤ n →
      group_at_of t c n ≡ group_at_of t d n
  -- each path ends at the one top
  pub top : (c l g : ℕ) → is_placed_in t c ≡ true → suc l ≡ level_count_of t → IsTop t g →
      group_at_of t c l ≡ Some g
  -- every group is on the path of some placed CPU: a node without one has no group
  pub some_cpu : (g : ℕ) → g < group_count_of t →
      (c : ℕ) × (is_placed_in t c ≡ true) × (group_at_of t c (level_of t g) ≡ Some g)
  -- the path as a list
  pub listed : (c l : ℕ) → slice_get (path_of t c) l ≡ group_at_of t c l

-- the CPUs below a group are those below its children, each below one, and the children's runs of
-- CPUs ascend
pub record BelowLaws (t : Shape) : Type 0 where
  pub tested_below : (c g : ℕ) → (is_below t c g ≡ true) ↔ IsBelow t c g
  pub tested_under : (c : ℕ) (m : Child) → (is_under t c m ≡ true) ↔ IsUnder t c m
  pub placed : (c g : ℕ) → IsBelow t c g → is_placed_in t c ≡ true
  pub child : (c p : ℕ) → IsBelow t c p →
      (k : ℕ) × (m : Child) × (child_at t p k ≡ Some m) × IsUnder t c m
  pub group : (c p k : ℕ) (m : Child) → child_at t p k ≡ Some m → IsUnder t c m → IsBelow t c p
  pub one_child : (c p j k : ℕ) (m n : Child) → child_at t p j ≡ Some m → child_at t p k ≡ Some n →
      IsUnder t c m → IsUnder t c n → j ≡ k
  pub ascending : (c d p j k : ℕ) (m n : Child) → child_at t p j ≡ Some m →
      child_at t p k ≡ Some n → IsUnder t c m → IsUnder t d n → j < k → c < d
  -- the same of the groups of a level
  pub level_ascending : (c d g h : ℕ) → IsBelow t c g → IsBelow t d h →
      level_of t g ≡ level_of t h → g < h → c < d
  -- every placed CPU is below the top
  pub top : (c g : ℕ) → IsTop t g → is_placed_in t c ≡ true → IsBelow t c g
  pub some_cpu : (p k : ℕ) (m : Child) → child_at t p k ≡ Some m → (c : ℕ) × IsUnder t c m

-- groups below the number of CPU levels have the CPUs of one node, and all groups of a row but the
-- last are full
pub record NodeLaws (t : Shape) : Type 0 where
  pub one_node : (c d g : ℕ) → level_of t g < node_levels_of t → IsBelow t c g → IsBelow t d g →
      node_of t c ≡ node_of t d
  -- a group that a later one of the same node and level follows
  pub full_in_node : (c d g h : ℕ) → level_of t g < node_levels_of t →
      level_of t g ≡ level_of t h → g < h → IsBelow t c g → IsBelow t d h →
      node_of t c ≡ node_of t d → child_count_of t g ≡ 8
  -- a group that a later one of the same level follows, where levels group across nodes
  pub full_across : (g h : ℕ) → node_levels_of t ≤ level_of t g →
      level_of t g ≡ level_of t h → g < h → h < group_count_of t → child_count_of t g ≡ 8
