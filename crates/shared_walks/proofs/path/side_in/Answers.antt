use Rattle.std.proofs.Common.{Some, None, sym, ◌∙◌, arith}
use Rattle.shared_rule.proofs.core_state.Paths.{side_above, side_at_leaf}
use Rattle.shared_walks.proofs.path.side_in.Goals as goal

pub returns-then-level-eq0-clause-side : goal.returns-then-level-eq0-clause-side
returns-then-level-eq0-clause-side c =
    c.cpu_side.ensures.bit
    ∙ sym (side_at_leaf c.args.tree.now c.args.cpu.0 c.args.level c.if-level-eq0.true)

pub bit-requires : goal.bit-requires
bit-requires c =
    (c.law_paths.ensures c.args.tree.now c.cpu_count.ensures.planned).group_within c.args.cpu.0 _
    c.in-Some.below.0 (sym c.in-Some.ensures.group)

pub returns-in-Some-clause-side : goal.returns-in-Some-clause-side
returns-in-Some-clause-side c =
    c.bit.ensures
    ∙ sym
    (side_above c.args.tree.now c.args.cpu.0 c.args.level (Some c.in-Some.below.0)
    (omega (arith, c.if-level-eq0.false)) (sym c.in-Some.ensures.group))

pub returns-in-None-clause-side : goal.returns-in-None-clause-side
returns-in-None-clause-side c =
    sym
    (side_above c.args.tree.now c.args.cpu.0 c.args.level None (omega (arith, c.if-level-eq0.false))
    (sym c.in-None.ensures.group))
