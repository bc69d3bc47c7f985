use Rattle.std.proofs.Common.{◌≡◌, length}
use Rattle.tree_plan.specs.Shape.{placed_from}
use Rattle.tree_plan.specs.Store.{seat_links}
use Rattle.tree_plan.proofs.cutting.link_cpus.Given as goal

abbrev pub invariant-loop-cpu : goal.invariant-loop-cpu
invariant-loop-cpu l = record {
  next : l.next ≡ length (placed_from l.isolated 0 l.cpu);
  so_far : l.seats.items ≡ seat_links l.isolated l.links l.cpu;
}
