use Rattle.std.proofs.Common.{arith, rules, ◌∙◌}
use Rattle.run_plain.proofs.Spreading.{interrupted_apart, interrupted_last, on_cpus}
use Rattle.run_plain.proofs.moments.interrupts_apart.Goals as goal

pub loop-cpu-preserved : goal.loop-cpu-preserved
loop-cpu-preserved g c =
    let done = c.in_ok-interrupt_apart.ensures in
    let was = c.loop-cpu.invariant in
    let spreads = on_cpus _ _ _ _ _ _ was.same.same.cpus done.spreads in
    record {
      rest = interrupted_apart _ _ _ _ _ _ _ _ _ _ _ _ was.rest
          (omega (arith, c.loop-cpu-test.true, c.cpus-cpu-end.ensures.count)) spreads;
      count = done.count ∙ was.count;
      same = search rules;
      fit = done.fit;
    }

pub returns : goal.returns
returns g c =
    record {
      spreads = interrupted_last _ _ _ _ _ _ _ _ _ _ c.loop-cpu.invariant.rest
          (omega (arith, c.loop-cpu-test.false, c.cpus-cpu-end.ensures.count));
      count = c.loop-cpu.invariant.count;
      same = c.loop-cpu.invariant.same.same;
      fit = c.loop-cpu.invariant.fit;
    }
