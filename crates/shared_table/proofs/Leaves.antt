-- the slot of a CPU in its leaf
use Rattle.std.proofs.Common.{◌≡◌, ℕ, List, Some, sym, ap, ◌∙◌, refl}
use Rattle.std.specs.Prelude.{slice_index_or}
use Rattle.tm_base.specs.Children.{of_cpu}
use Rattle.event_queue.specs.EventMap.{event_at}
use Rattle.tree_plan.specs.Shape.{Shape}
use Rattle.tree_plan.specs.Paths.{bit_of, child_towards, group_at_of}
use Rattle.walk_rules.specs.Hierarchy.{side}
use Rattle.walk_rules.specs.Scene.{Group, no_group}
use Rattle.core_world.specs.World.{World}
use Rattle.shared_rule.specs.Whole.{leaf_in, leaf_of}

cpu_side : (t : Shape) (c : ℕ) → side t c 0 ≡ bit_of t (of_cpu c)
unfolding child_towards
cpu_side t c = refl

-- that of a CPU with a leaf
pub leaf_there : (o : World) (t : Shape) (groups : List Group) (c g : ℕ) → o.tree ≡ t
    → o.groups ≡ groups → group_at_of t c 0 ≡ Some g
    → event_at (slice_index_or groups g no_group).events (bit_of t (of_cpu c)) ≡ leaf_of o c
leaf_there o t groups c g tree same at =
    ap (event_at (slice_index_or groups g no_group).events)
    (sym (ap (λ z. side z c 0) tree ∙ cpu_side t c))
    ∙ ap (λ (z : List Group). event_at (slice_index_or z g no_group).events (side o.tree c 0))
    (sym same)
    ∙ ap (leaf_in o c) (sym (ap (λ z. group_at_of z c 0) tree ∙ at))
