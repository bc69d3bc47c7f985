use Rattle.std.proofs.Common.{arith, ap, ◌∙◌}
use Rattle.std.proofs.Math.Nat.{mul-pos}
use Rattle.std.specs.FinSet.{contains, contains-empty}
use Rattle.std.specs.Ordering.{nat_cmp}
use Rattle.core_bench.proofs.machines.new_machine.Goals as goal

pub plan-requires : goal.plan-requires
plan-requires c = record {
  some_node = c.requires.some_node;
  few_nodes = c.requires.few_nodes;
  some_cpu = c.requires.some_cpu;
  few_cpus = c.requires.few_cpus;
  some_placed = (
    0,
    mul-pos (omega (arith, c.requires.some_node)) (omega (arith, c.requires.some_cpu)),
    ap (λ s. contains s 0) c.new.ensures
        ∙ contains-empty nat_cmp 0,
  );
}
