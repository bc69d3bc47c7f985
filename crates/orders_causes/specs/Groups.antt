-- groups that a tree has (no public clause cites it)
use Rattle.std.specs.Prelude.{◌≡◌, ◌<◌, ◌⊎◌, ℕ}
use Rattle.tree_plan.specs.Shape.{Shape}
use Rattle.tree_plan.specs.Paths.{group_count_of, level_count_of}

-- the tree has this group; one that has none is asked for group 0
abbrev pub IsGroupOf : Shape → (g : ℕ) → Type 0
IsGroupOf t g = (g < group_count_of t) ⊎ ((level_count_of t ≡ 0) × (g ≡ 0))
