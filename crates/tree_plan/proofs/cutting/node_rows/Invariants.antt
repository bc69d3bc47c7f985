use Rattle.std.proofs.Common.{◌≡◌, length, map}
use Rattle.tree_plan.specs.Shape.{node_cpus}
use Rattle.tree_plan.proofs.cutting.node_rows.Given as goal

abbrev pub invariant-loop-node : goal.invariant-loop-node
invariant-loop-node l = l.rows.items ≡ map length (node_cpus l.node l.cpus l.isolated)
