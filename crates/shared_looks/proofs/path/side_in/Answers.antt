use Rattle.std.proofs.Common.{Some, None, sym, ◌∙◌, arith}
use Rattle.shared_cpus.proofs.core_state.Paths.{side_above, side_at_leaf}
use Rattle.shared_looks.proofs.path.side_in.Goals as goal

pub returns-then-level-eq0 : goal.returns-then-level-eq0
returns-then-level-eq0 c =
    c.cpu_side.ensures.bit
    ∙ sym (side_at_leaf c.args.tree.now c.args.cpu.0 c.args.level c.if-level-eq0.true)

pub bit-requires : goal.bit-requires
bit-requires c =
    (c.law_paths.ensures c.args.tree.now c.cpu_count.ensures.planned).group_within c.args.cpu.0 _
    c.in-Some.below.0 (sym c.in-Some.ensures.group)

pub returns-in-Some : goal.returns-in-Some
returns-in-Some c =
    c.bit.ensures
    ∙ sym
    (side_above c.args.tree.now c.args.cpu.0 c.args.level (Some c.in-Some.below.0)
    (omega (arith, c.if-level-eq0.false)) (sym c.in-Some.ensures.group))

pub returns-in-None : goal.returns-in-None
returns-in-None c =
    sym
    (side_above c.args.tree.now c.args.cpu.0 c.args.level None (omega (arith, c.if-level-eq0.false))
    (sym c.in-None.ensures.group))
