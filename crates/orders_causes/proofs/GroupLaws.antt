-- a tree without groups
use Rattle.std.proofs.Common.{◌≡◌, ℕ, ap}
use Rattle.std.proofs.lemmas.List.{nil_from_length}
use Rattle.tree_plan.specs.Shape.{Shape}
use Rattle.tree_plan.specs.Paths.{level_count_of, level_in, level_of, place_in, place_of}

pub no_level : (t : Shape) (g : ℕ) → level_count_of t ≡ 0 → level_of t g ≡ 0
unfolding level_in
no_level t g none = ap (λ ls. level_in ls g) (nil_from_length t.levels none)

pub no_place : (t : Shape) (g : ℕ) → level_count_of t ≡ 0 → place_of t g ≡ 0
unfolding place_in
no_place t g none = ap (λ ls. place_in ls g) (nil_from_length t.levels none)
