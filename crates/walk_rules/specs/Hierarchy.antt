-- what walks rely on in a tree
use Rattle.std.specs.Prelude.{◌≡◌, ℕ, suc, ◌<◌, Bool, true, Some, None, is_none, unwrap_or}
use Rattle.std.specs.Option.{option_map_or}
use Rattle.tm_base.specs.declared.names.Child.{Child}
use Rattle.tree_plan.specs.Shape.{Shape}
use Rattle.tree_plan.specs.Paths.{bit_of, child_towards, group_at_of, group_count_of, is_placed_in}
use Rattle.tree_plan.specs.Paths.{level_count_of, parent_of}

-- the group of CPU c's path at a level; group 0 stands in where the path has none
abbrev pub group_on : Shape → (c l : ℕ) → ℕ
group_on t c l = unwrap_or (group_at_of t c l) 0

-- the child number, in the group of CPU c's path at a level, of the child through which the path
-- goes
abbrev pub side : Shape → (c l : ℕ) → ℕ
side t c l = option_map_or (bit_of t) (child_towards t c l) 0

-- above that level the path has no group
abbrev pub at_top : Shape → (c l : ℕ) → Bool
at_top t c l = is_none (group_at_of t c (suc l))

-- a CPU has a group where it has a leaf
abbrev pub HasGroup : Shape → ℕ → Type 0
HasGroup t c = (g : ℕ) × (group_at_of t c 0 ≡ Some g)

-- what walks rely on in a tree
pub record IsHierarchy (t : Shape) : Type 0 where
  -- at each level of a path there is a child through which it comes into the group, the child's
  -- parent
  pub towards : (c l g : ℕ) → group_at_of t c l ≡ Some g →
      (m : Child) × (child_towards t c l ≡ Some m)
  pub onwards : (c l : ℕ) (m : Child) → child_towards t c l ≡ Some m →
      group_at_of t c l ≡ parent_of t m
  -- a path that has a group at a level has one at each level below
  pub lower : (c l p : ℕ) → group_at_of t c (suc l) ≡ Some p →
      (g : ℕ) × (group_at_of t c l ≡ Some g)
  -- the children of a group have numbers of their own, below eight
  pub apart : (m n : Child) (g : ℕ) → parent_of t m ≡ Some g → parent_of t n ≡ Some g →
      bit_of t m ≡ bit_of t n → m ≡ n
  pub eight : (m : Child) → bit_of t m < 8
  -- groups are numbered from 0
  pub within : (c l g : ℕ) → group_at_of t c l ≡ Some g → g < group_count_of t
  -- a group stands at one level, whosever path has it
  pub one_level : (c d l n g : ℕ) → group_at_of t c l ≡ Some g → group_at_of t d n ≡ Some g → l ≡ n
  -- every path ends at one top
  pub one_top : (c d l n g h : ℕ) → group_at_of t c l ≡ Some g → group_at_of t c (suc l) ≡ None →
      group_at_of t d n ≡ Some h → group_at_of t d (suc n) ≡ None → g ≡ h
  -- as soon as there is any group, a CPU has one exactly where it is placed
  pub placed : (c : ℕ) → is_placed_in t c ≡ true → 0 < level_count_of t → HasGroup t c
  pub has_group : (c g : ℕ) → group_at_of t c 0 ≡ Some g → is_placed_in t c ≡ true
