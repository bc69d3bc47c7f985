use Rattle.std.proofs.Common.{◌+◌, ap, arith, sym, ◌∙◌}
use Rattle.std.specs.Prelude.{min}
use Rattle.tm_base.specs.declared.names.TheConstants.{NEVER}
use Rattle.play_rules.specs.State.{cpu_at, is_active}
use Rattle.step_play.specs.Rules.Seen.{state_of}
use Rattle.core_machine.proofs.Views.Controlling.{next_active, next_idle}
use Rattle.core_machine.proofs.Views.Searches.{least_more, none_more}
use Rattle.core_machine.proofs.readings.machine.next_interrupt.Goals as goal

pub returns-then-is_active : goal.returns-then-is_active
returns-then-is_active g c =
    let low = c.loop-cpu-test.true in
    let count = c.count-cpu-end.ensures in
    ap (λ n. n + 1) c.now.ensures
    ∙ sym (next_active c.args.core.now c.loop-cpu.cpu (omega (arith, low, count))
    (sym c.is_active.ensures ∙ c.if-is_active.true))

pub loop-cpu-preserved : goal.loop-cpu-preserved
loop-cpu-preserved g c = record {
  idle = none_more c.args.core.now (is_active (state_of c.args.core.now)) c.loop-cpu.cpu
      c.loop-cpu.invariant.idle (sym c.is_active.ensures ∙ c.if-is_active.false);
  least = least_more (λ d. (cpu_at (state_of c.args.core.now) d).wakeup) NEVER c.loop-cpu.cpu
      c.loop-cpu.least _ c.loop-cpu.invariant.least
      (c.min-least.ensures ∙ ap (λ n. min c.loop-cpu.least n) c.wakeup.ensures.seen);
}

pub returns : goal.returns
returns g c =
    let high = c.loop-cpu-test.false in
    let count = c.count-cpu-end.ensures in
    let low = c.loop-cpu.auto.cpu-end in
    next_idle c.args.core.now c.loop-cpu.cpu c.loop-cpu.least c.loop-cpu.invariant.idle
    (omega (arith, high, count, low)) c.loop-cpu.invariant.least
