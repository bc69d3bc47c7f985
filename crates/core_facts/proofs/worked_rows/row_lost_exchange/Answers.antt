use Rattle.std.proofs.Common.{refl}
use Rattle.tree_plan.specs.Shape.{levels_from, levels_for, log2up, least_power, rows_at, cut, runs_of}
use Rattle.tree_plan.specs.Shape.{numbered}
use Rattle.tm_base.specs.Children.{same_child}
use Rattle.tree_plan.specs.Paths.{groups_of, children_of, parent_of, bit_in, bit_of, group_at_of}
use Rattle.tree_plan.specs.Paths.{child_towards}
use Rattle.core_facts.specs.Worked.Rows.{lost_end, lost_steps, stale_start, walks}
use Rattle.core_facts.proofs.Worked.Tests.{each_enabled}
use Rattle.core_facts.proofs.worked_rows.row_lost_exchange.Goals as goal

pub returns : goal.returns
unfolding groups_of levels_from levels_for log2up least_power rows_at cut runs_of children_of numbered parent_of same_child bit_in bit_of group_at_of child_towards
returns c = record {
  enabled = each_enabled stale_start lost_steps refl;
  active = refl;
  migrator = refl;
  second = refl;
  stage = refl;
  fresh = refl;
  goes_on = each_enabled lost_end (walks 2 8) refl;
  none_active = refl;
  none_migrates = refl;
  made = refl;
}
