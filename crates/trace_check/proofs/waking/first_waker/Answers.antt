use Rattle.std.proofs.Common.{arith}
use Rattle.trace_check.proofs.WakeLaws.{first_here, wakes_more, wakes_none}
use Rattle.trace_check.proofs.waking.first_waker.Goals as goal

pub returns-in-Some-clause-first : goal.returns-in-Some-clause-first
returns-in-Some-clause-first g c =
    first_here c.args.core.now c.args.time c.loop-cpu.cpu c.in-Some.at c.loop-cpu.invariant
    c.in-Some.ensures.placed c.in-Some.ensures.keeps c.in-Some.ensures.in_time

pub loop-cpu-preserved : goal.loop-cpu-preserved
loop-cpu-preserved g c =
    wakes_more c.args.core.now c.args.time c.loop-cpu.cpu c.loop-cpu.invariant
    c.in_default.ensures.none

pub returns-clause-none : goal.returns-clause-none
returns-clause-none g c =
    wakes_none c.args.core.now c.args.time c.kept.ensures.fits.lawful.sized
    c.kept.ensures.fits.planned c.loop-cpu.cpu c.loop-cpu.invariant
    (let count = c.count-cpu-end.ensures in let end = c.loop-cpu-test.false in
    omega (arith, count, end))
