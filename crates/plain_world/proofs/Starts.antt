-- the start
use Rattle.std.proofs.Common.{◌≡◌, ℕ, ◌+◌, List, [], ◌∷◌, ◌++◌, sym, ◌∙◌, arith}
use Rattle.std.specs.Prelude.{map}
use Rattle.std.specs.List.{range_with_len}
use Rattle.std.proofs.lemmas.List.FromFn.{map-range_with_len_more}
use Rattle.tree_plan.specs.Shape.{Shape}
use Rattle.tree_plan.specs.Paths.{child_count_of}
use Rattle.walk_rules.specs.Scene.{Group}
use Rattle.core_world.specs.Start.{start_group}

pub one_more_group : (t : Shape) (n : ℕ) (groups : List Group) (x : Group)
    → groups ≡ map (λ g. start_group (child_count_of t g)) (range_with_len 0 n)
    → x ≡ start_group (child_count_of t n)
    → groups ++ x ∷ [] ≡ map (λ g. start_group (child_count_of t g)) (range_with_len 0 (n + 1))
one_more_group t n groups x made is =
    (λ i. made i ++ is i ∷ [])
    ∙ sym (map-range_with_len_more (λ g. start_group (child_count_of t g)) 0 n n (omega arith))
