-- the text of a tree: its measures, and a line for each group
use Rattle.std.specs.Prelude.{ℕ, List, ◌∷◌, ◌++◌, map, codes, Option, Some, None}
use Rattle.std.specs.Fmt.{decimal}
use Rattle.std.specs.List.{flat_map, range_with_len}
use Rattle.text_words.specs.Words.{ended}
use Rattle.tm_base.specs.Children.{of_group}
use Rattle.tree_plan.specs.Shape.{Shape}
use Rattle.tree_plan.specs.Paths.{group_count_of, level_count_of, level_of, place_of}
use Rattle.tree_plan.specs.Paths.{child_count_of, parent_of, bit_of}
use Rattle.tm_report.specs.Words.{group_text}

-- a group, by its level and its place there
abbrev pub tree_group_name : Shape → ℕ → List ℕ
tree_group_name t g = group_text (level_of t g) (place_of t g)

-- where a group stands: below a parent with its child number there, or at the top
abbrev pub standing : Shape → ℕ → Option ℕ → List ℕ
standing t g None = codes " top"
standing t g (Some p) =
    codes " parent " ++ tree_group_name t p ++ codes " bit " ++ decimal (bit_of t (of_group g))

-- the line of a group: its name, where it stands, and how many children it has
abbrev pub group_line : Shape → ℕ → List ℕ
group_line t g =
    codes "group " ++ tree_group_name t g ++ standing t g (parent_of t (of_group g))
    ++ codes " children " ++ decimal (child_count_of t g)

-- the line of a tree: how many levels and groups it has
abbrev pub measures_line : Shape → List ℕ
measures_line t =
    codes "levels " ++ decimal (level_count_of t) ++ codes " groups " ++ decimal (group_count_of t)

-- the lines of all groups in the order of their numbers
abbrev pub group_lines : Shape → List (List ℕ)
group_lines t = map (group_line t) (range_with_len 0 (group_count_of t))

-- THE TEXT of a tree
unfoldable pub tree_text : Shape → List ℕ
tree_text t = flat_map ended (measures_line t ∷ group_lines t)
