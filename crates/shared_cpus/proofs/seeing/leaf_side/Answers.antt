use Rattle.std.proofs.Common.{refl, sym, ◌∙◌}
use Rattle.shared_rule.proofs.core_state.Paths.{side_at_leaf, unplaced_bit}
use Rattle.shared_cpus.proofs.seeing.leaf_side.Goals as goal

pub returns-then-is_placed-clause-side : goal.returns-then-is_placed-clause-side
returns-then-is_placed-clause-side c =
    c.cpu_bit.ensures ∙ sym (side_at_leaf c.args.tree.now c.args.cpu.0 0 refl)

pub returns-else-is_placed-clause-side : goal.returns-else-is_placed-clause-side
returns-else-is_placed-clause-side c =
    sym
    (unplaced_bit c.args.tree.now c.args.cpu.0
    (c.law_edges.ensures c.args.tree.now c.cpu_count.ensures.planned)
    (sym c.is_placed.ensures ∙ c.if-is_placed.false))
    ∙ sym (side_at_leaf c.args.tree.now c.args.cpu.0 0 refl)
