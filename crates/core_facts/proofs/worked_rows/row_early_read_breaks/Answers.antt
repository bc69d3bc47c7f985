use Rattle.std.proofs.Common.{refl, zero, suc, ℕ, ◌≡◌, ◌⊎◌, ◌∙◌, None, true, false, true≢false, inl, inr, sym}
use Rattle.std.proofs.lemmas.Option.{none-some}
use Rattle.tm_base.specs.Children.{of_group, same_child}
use Rattle.tree_plan.specs.Shape.{levels_from, levels_for, log2up, least_power, node_cpus, rows_at}
use Rattle.tree_plan.specs.Shape.{cut, runs_of, numbered}
use Rattle.tree_plan.specs.Paths.{groups_of, children_of, parent_of, bit_in, bit_of, group_at_of}
use Rattle.tree_plan.specs.Paths.{child_towards}
use Rattle.walk_rules.specs.Edges.{StandsAt, stand}
use Rattle.walk_rules.specs.Scene.{is_on}
use Rattle.core_world.specs.World.{scene_of}
use Rattle.core_facts.specs.Worked.Rows.{read_early}
use Rattle.core_facts.proofs.worked_rows.row_early_read_breaks.Goals as goal

stands_nowhere : (d : ℕ) → stand read_early.tree (scene_of read_early) d ≡ None
unfolding groups_of levels_from levels_for log2up least_power node_cpus rows_at cut runs_of children_of numbered parent_of same_child bit_in bit_of group_at_of child_towards
stands_nowhere zero = refl
stands_nowhere (suc zero) = refl
stands_nowhere (suc (suc zero)) = refl
stands_nowhere (suc (suc (suc zero))) = refl
stands_nowhere (suc (suc (suc (suc zero)))) = refl
stands_nowhere (suc (suc (suc (suc (suc zero))))) = refl
stands_nowhere (suc (suc (suc (suc (suc (suc zero)))))) = refl
stands_nowhere (suc (suc (suc (suc (suc (suc (suc zero))))))) = refl
stands_nowhere (suc (suc (suc (suc (suc (suc (suc (suc zero)))))))) = refl
stands_nowhere (suc (suc (suc (suc (suc (suc (suc (suc (suc zero))))))))) = refl
stands_nowhere (suc (suc (suc (suc (suc (suc (suc (suc (suc (suc d)))))))))) = refl

none_stands : StandsAt read_early.tree (scene_of read_early) (of_group 1) → ⊥
none_stands (d, at) = none-some (of_group 1) (sym (stands_nowhere d) ∙ at)

is_awake : is_on (scene_of read_early) (of_group 1) ≡ true
unfolding groups_of levels_from levels_for log2up least_power node_cpus rows_at cut runs_of children_of numbered parent_of same_child bit_in bit_of group_at_of child_towards
is_awake = refl

not_both : (is_on (scene_of read_early) (of_group 1) ≡ false)
    ⊎ StandsAt read_early.tree (scene_of read_early) (of_group 1) → ⊥
not_both (inl off) = true≢false (sym is_awake ∙ off)
not_both (inr stands) = none_stands stands

pub returns : goal.returns
unfolding groups_of levels_from levels_for log2up least_power node_cpus rows_at cut runs_of children_of numbered parent_of same_child bit_in bit_of group_at_of child_towards
returns c = record {
  stage = refl;
  fresh = refl;
  saw = refl;
  leaf = refl;
  over = refl;
  unlawful = λ l.
      not_both (l.reads 8 _ (of_group 1)
      (record { walk = refl; swapping = refl; fresh = refl; saw_off = refl; child = refl }));
}
