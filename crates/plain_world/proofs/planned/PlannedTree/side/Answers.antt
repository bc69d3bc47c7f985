use Rattle.std.proofs.Common.{Some, None, sym, ◌∙◌, arith}
use Rattle.plain_world.proofs.Paths.{bit_read, side_above, side_at_leaf}
use Rattle.plain_world.proofs.planned.PlannedTree.side.Goals as goal

pub returns-then-level-eq0-clause-side : goal.returns-then-level-eq0-clause-side
returns-then-level-eq0-clause-side c =
    c.cpu_side.ensures
    ∙ sym (side_at_leaf c.args.self.now c.args.cpu.0 c.args.level c.if-level-eq0.true)

pub returns-in-Some-clause-side : goal.returns-in-Some-clause-side
returns-in-Some-clause-side c =
    bit_read c.args.self.now c.tree-tree.result.now c.in-Some.below.0 c.bit.result
    c.tree-tree.ensures.tree c.bit.ensures
    ∙ sym
    (side_above c.args.self.now c.args.cpu.0 c.args.level (Some c.in-Some.below.0)
    (omega (arith, c.if-level-eq0.false)) (sym c.in-Some.ensures))

pub returns-in-None-clause-side : goal.returns-in-None-clause-side
returns-in-None-clause-side c =
    sym
    (side_above c.args.self.now c.args.cpu.0 c.args.level None (omega (arith, c.if-level-eq0.false))
    (sym c.in-None.ensures))
