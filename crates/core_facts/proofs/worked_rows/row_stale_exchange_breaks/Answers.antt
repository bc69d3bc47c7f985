use Rattle.std.proofs.Common.{refl, zero, suc, ℕ, ◌≡◌, ◌∙◌, None, sym}
use Rattle.std.proofs.lemmas.Option.{none-some}
use Rattle.tm_base.specs.Children.{of_group, same_child}
use Rattle.tree_plan.specs.Shape.{levels_from, levels_for, log2up, least_power, node_cpus, rows_at}
use Rattle.tree_plan.specs.Shape.{cut, runs_of, numbered}
use Rattle.tree_plan.specs.Paths.{groups_of, children_of, parent_of, bit_in, bit_of, group_at_of}
use Rattle.tree_plan.specs.Paths.{child_towards}
use Rattle.walk_rules.specs.Edges.{StandsAt, stand}
use Rattle.walk_rules.specs.Scene.{HasBit}
use Rattle.core_world.specs.World.{scene_of}
use Rattle.core_facts.specs.Worked.Rows.{stale_made}
use Rattle.core_facts.proofs.worked_rows.row_stale_exchange_breaks.Goals as goal

stands_nowhere : (d : ℕ) → stand stale_made.tree (scene_of stale_made) d ≡ None
unfolding groups_of levels_from levels_for log2up least_power node_cpus rows_at cut runs_of children_of numbered parent_of same_child bit_in bit_of group_at_of child_towards
stands_nowhere zero = refl
stands_nowhere (suc zero) = refl
stands_nowhere (suc (suc zero)) = refl
stands_nowhere (suc (suc (suc zero))) = refl
stands_nowhere (suc (suc (suc (suc zero)))) = refl
stands_nowhere (suc (suc (suc (suc (suc zero))))) = refl
stands_nowhere (suc (suc (suc (suc (suc (suc zero)))))) = refl
stands_nowhere (suc (suc (suc (suc (suc (suc (suc zero))))))) = refl
stands_nowhere (suc (suc (suc (suc (suc (suc (suc (suc zero)))))))) = refl
stands_nowhere (suc (suc (suc (suc (suc (suc (suc (suc (suc zero))))))))) = refl
stands_nowhere (suc (suc (suc (suc (suc (suc (suc (suc (suc (suc d)))))))))) = refl

no_bit : HasBit stale_made.tree (scene_of stale_made) (of_group 1) 2 → ⊥
unfolding groups_of levels_from levels_for log2up least_power node_cpus rows_at cut runs_of children_of numbered parent_of same_child bit_in bit_of group_at_of child_towards
no_bit bit = cc

none_stands : StandsAt stale_made.tree (scene_of stale_made) (of_group 1) → ⊥
none_stands (d, at) = none-some (of_group 1) (sym (stands_nowhere d) ∙ at)

pub returns : goal.returns
unfolding groups_of levels_from levels_for log2up least_power node_cpus rows_at cut runs_of children_of numbered parent_of same_child bit_in bit_of group_at_of child_towards
returns c = record {
  stage = refl;
  fresh = refl;
  awake = refl;
  leaf = refl;
  top = refl;
  over = refl;
  unlawful = λ l. none_stands (l.edges.needs (of_group 1) 2 refl refl no_bit);
}
