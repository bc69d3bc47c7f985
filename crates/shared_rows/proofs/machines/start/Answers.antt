use Rattle.std.proofs.Common.{arith, sym, ◌∙◌}
use Rattle.std.proofs.Math.Nat.{mul-pos}
use Rattle.shared_rows.proofs.machines.start.Goals as goal

pub new_machine-requires : goal.new_machine-requires
new_machine-requires c =
    let nodes = c.if-nodes-eq0.false in
    let cpus = c.if-cpus-eq0.false in
    record {
      some_node = omega (arith, nodes);
      few_nodes = let few = c.if-nodes-gt-MOST_NODES.false in omega (arith, few);
      some_cpu = omega (arith, cpus);
      few_cpus = let few = c.if-cpus-gt-MOST_NODE_CPUS.false in omega (arith, few);
      some_placed = (
        0,
        mul-pos (omega (arith, nodes)) (omega (arith, cpus)),
        sym c.has.ensures.found ∙ c.if-has.false,
      );
    }
