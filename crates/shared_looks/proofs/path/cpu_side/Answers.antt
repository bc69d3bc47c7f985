use Rattle.std.proofs.Common.{sym, ◌∙◌}
use Rattle.shared_cpus.proofs.core_state.Paths.{unplaced_bit}
use Rattle.shared_looks.proofs.path.cpu_side.Goals as goal

pub returns-else-is_placed : goal.returns-else-is_placed
returns-else-is_placed c = record {
  bit =
      sym
      (unplaced_bit c.args.tree.now c.args.cpu.0
      (c.law_edges.ensures c.args.tree.now c.cpu_count.ensures.planned)
      (sym c.is_placed.ensures ∙ c.if-is_placed.false));
}
