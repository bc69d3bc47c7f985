use Rattle.std.proofs.Common.{rules, ◌∙◌}
use Rattle.run_plain.proofs.Spreading.{operated_apart, operated_last, on_cpus}
use Rattle.run_plain.proofs.moments.operations_apart.Goals as goal

pub loop-op-preserved : goal.loop-op-preserved
loop-op-preserved g c =
    let done = c.in_ok-operation_apart.ensures in
    let was = c.loop-op.invariant in
    let spreads = on_cpus _ _ _ _ _ _ was.same.cpus done.spreads in
    record {
      rest = operated_apart _ _ _ _ _ _ _ _ _ _ _ was.rest c.loop-op-test.true spreads;
      count = done.count ∙ was.count;
      same = search rules;
      fit = done.fit;
    }

pub returns : goal.returns
returns g c =
    record {
      spreads = operated_last _ _ _ _ _ _ _ _ c.loop-op.invariant.rest c.loop-op-test.false;
      count = c.loop-op.invariant.count;
      same = c.loop-op.invariant.same;
      fit = c.loop-op.invariant.fit;
    }
