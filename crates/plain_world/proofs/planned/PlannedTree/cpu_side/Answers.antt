use Rattle.std.proofs.Common.{sym, ◌∙◌}
use Rattle.plain_world.proofs.Paths.{unplaced_bit}
use Rattle.plain_world.proofs.planned.PlannedTree.cpu_side.Goals as goal

pub returns-else-is_placed : goal.returns-else-is_placed
returns-else-is_placed c =
    sym
    (unplaced_bit c.args.self.now c.args.cpu.0
    (c.law_edges.ensures c.args.self.now c.tree-tree.ensures.planned)
    (sym c.is_placed.ensures ∙ c.if-is_placed.false))
