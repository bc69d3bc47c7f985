use Rattle.std.proofs.Common.{sym, ◌∙◌}
use Rattle.core_parts.proofs.Under.{high_end}
use Rattle.core_parts.proofs.below.behind_below.Goals as goal

pub returns-else-not-is_apart-clause-behind : goal.returns-else-not-is_apart-clause-behind
returns-else-not-is_apart-clause-behind c =
    high_end c.args.tree.now (c.law_paths.ensures c.args.tree.now c.cpu_count-count.ensures.planned)
    (c.law_below.ensures c.args.tree.now c.cpu_count-count.ensures.planned)
    c.args.group.0 c.args.cpu.0 c.loop-behind.behind c.level-level.result
    c.requires c.level-level.ensures c.loop-behind.invariant.above
    (sym c.is_apart.ensures ∙ c.if-not-is_apart.false)
