use Rattle.core_state.proofs.Paths.{on_in_range}
use Rattle.core_state.proofs.tree.group_on.Goals as goal

pub returns-clause-in_range : goal.returns-clause-in_range
returns-clause-in_range c =
    on_in_range c.args.tree.now c.args.cpu.0 c.args.level c.group_at.result c.unwrap_or.result
    (c.law_paths.ensures c.args.tree.now c.cpu_count.ensures.planned) c.group_at.ensures.group
    c.unwrap_or.ensures
