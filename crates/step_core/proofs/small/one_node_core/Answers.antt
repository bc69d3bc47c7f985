use Rattle.std.proofs.Common.{arith, ap, ◌∙◌}
use Rattle.std.specs.FinSet.{contains, contains-empty}
use Rattle.std.specs.Ordering.{nat_cmp}
use Rattle.step_core.proofs.small.one_node_core.Goals as goal

pub plan-requires : goal.plan-requires
plan-requires c = record {
  some_node = omega arith;
  few_nodes = omega arith;
  some_cpu = c.requires.some;
  few_cpus = c.requires.few;
  some_placed = (
    0,
    (let some = c.requires.some in omega (arith, some)),
    ap (λ s. contains s 0) c.new.ensures ∙ contains-empty nat_cmp 0,
  );
}
