use Rattle.std.proofs.Common.{◌*◌, ◌∙◌, length, ap}
use Rattle.tree_plan.specs.Shape.{node_cpus, placed_from}
use Rattle.tree_plan.proofs.Building.{nodes_more}
use Rattle.tree_plan.proofs.cutting.node_rows.Goals as goal

pub loop-node-init : goal.loop-node-init
unfolding node_cpus
loop-node-init c = c.new-rows.ensures.items

pub loop-node-preserved : goal.loop-node-preserved
loop-node-preserved c =
    nodes_more c.args.isolated.now c.loop-node.node c.args.cpus (c.from.result * c.from-in-loop-node.result) c.placed_among.result _ _ c.loop-node.invariant (λ i. c.from.ensures i * c.from-in-loop-node.ensures i) (c.placed_among.ensures ∙ ap (λ n. length (placed_from c.args.isolated.now (c.from.result * c.from-in-loop-node.result) n)) c.from-in-loop-node-2.ensures) c.in_ok-push.ensures.items
