use Rattle.std.proofs.Common.{arith, sym, ◌∙◌}
use Rattle.core_machine.proofs.Views.Controlling.{is_up, runs, runs_first, up_first}
use Rattle.core_machine.proofs.Views.Searches.{find_more, none_more}
use Rattle.core_machine.proofs.readings.machine.first_to_control.Goals as goal

pub returns-then-is_placed_active : goal.returns-then-is_placed_active
returns-then-is_placed_active g c =
    let low = c.loop-cpu-test.true in
    let count = c.count-cpu-end.ensures in
    sym (runs_first c.args.core.now c.loop-cpu.cpu c.loop-cpu.invariant.idle
    (omega (arith, low, count)) (sym c.is_placed_active.ensures ∙ c.if-is_placed_active.true))

pub loop-cpu-preserved : goal.loop-cpu-preserved
loop-cpu-preserved g c = record {
  idle = none_more c.args.core.now (runs c.args.core.now) c.loop-cpu.cpu c.loop-cpu.invariant.idle
      (sym c.is_placed_active.ensures ∙ c.if-is_placed_active.false);
  lowest = find_more (is_up c.args.core.now) c.loop-cpu.cpu _ _ c.loop-cpu.invariant.lowest
      c.lowest_up-up.ensures;
}

pub returns : goal.returns
returns g c =
    let high = c.loop-cpu-test.false in
    let count = c.count-cpu-end.ensures in
    let low = c.loop-cpu.auto.cpu-end in
    up_first c.args.core.now c.loop-cpu.cpu _ c.loop-cpu.invariant.idle
    (omega (arith, high, count, low)) c.loop-cpu.invariant.lowest
