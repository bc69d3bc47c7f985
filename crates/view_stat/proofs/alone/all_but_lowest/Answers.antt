use Rattle.std.proofs.Common.{arith}
use Rattle.view_stat.proofs.Tree.{none_isolated, one_more}
use Rattle.view_stat.proofs.alone.all_but_lowest.Goals as goal

pub loop-cpu-init : goal.loop-cpu-init
loop-cpu-init c = record {
  some = omega arith;
  set = λ q. none_isolated c.new-isolated.result q c.new-isolated.ensures;
}

pub loop-cpu-preserved : goal.loop-cpu-preserved
loop-cpu-preserved c = record {
  some = omega (arith, c.loop-cpu.invariant.some);
  set = λ q.
      one_more c.loop-cpu.isolated c.add.new.self c.loop-cpu.cpu q c.loop-cpu.invariant.some
      c.add.ensures.added (c.loop-cpu.invariant.set q);
}
