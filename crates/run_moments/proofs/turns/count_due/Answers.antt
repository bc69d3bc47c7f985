use Rattle.std.proofs.Common.{◌+◌, ◌∙◌, ap, arith}
use mir.Val.{bool_byte}
use Rattle.std.specs.FinSet as set
use Rattle.run_moments.proofs.Plain.{bit_le, one_due}
use Rattle.run_moments.proofs.turns.count_due.Goals as goal

pub loop-cpu-preserved : goal.loop-cpu-preserved
loop-cpu-preserved c =
    let bit = c.from-count.ensures ∙ ap bool_byte c.has.ensures.found in
    record {
      count = ap (λ k. c.loop-cpu.count + k) bit
          ∙ one_due (set.contains c.args.due.now) c.loop-cpu.cpu c.loop-cpu.count c.loop-cpu.invariant.count;
      few = omega (arith, c.loop-cpu.invariant.few, bit, bit_le (set.contains c.args.due.now c.loop-cpu.cpu));
    }
