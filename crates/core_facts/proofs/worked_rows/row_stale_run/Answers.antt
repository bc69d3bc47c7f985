use Rattle.std.proofs.Common.{refl}
use Rattle.tree_plan.specs.Shape.{levels_from, levels_for, log2up, least_power, node_cpus, rows_at, cut, runs_of, numbered}
use Rattle.tm_base.specs.Children.{same_child}
use Rattle.tree_plan.specs.Paths.{groups_of, children_of, parent_of, bit_in, bit_of, group_at_of, child_towards}
use Rattle.core_facts.specs.Worked.Rows.{stale_start, stale_steps}
use Rattle.core_facts.proofs.Worked.Tests.{each_enabled}
use Rattle.core_facts.proofs.Worked.Trees.{tree_is}
use Rattle.core_facts.proofs.worked_rows.row_stale_run.Goals as goal

pub returns-clause-run : goal.returns-clause-run
unfolding groups_of levels_from levels_for log2up least_power node_cpus rows_at cut runs_of children_of numbered parent_of same_child bit_in bit_of group_at_of child_towards
returns-clause-run c = record {
  tree = tree_is 10;
  enabled = each_enabled stale_start stale_steps refl;
  leaf = refl;
  leaf_migrator = refl;
  top = refl;
  top_migrator = refl;
  idle = refl;
  level = refl;
  stage = refl;
}
