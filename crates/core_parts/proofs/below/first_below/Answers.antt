use Rattle.std.proofs.Common.{sym, ◌∙◌}
use Rattle.core_parts.proofs.Under.{low_end}
use Rattle.core_parts.proofs.below.first_below.Goals as goal

pub returns-else-not-is_apart-clause-first : goal.returns-else-not-is_apart-clause-first
returns-else-not-is_apart-clause-first c =
    low_end c.args.tree.now (c.law_paths.ensures c.args.tree.now c.cpu_count.ensures.planned)
    (c.law_below.ensures c.args.tree.now c.cpu_count.ensures.planned)
    c.args.group.0 c.args.cpu.0 c.loop-first.first c.level-level.result
    c.requires c.level-level.ensures c.loop-first.invariant c.loop-first-test.true
    (sym c.is_apart.ensures ∙ c.if-not-is_apart.false)
