use Rattle.std.proofs.Common.{arith, sym, ◌∙◌}
use Rattle.play_rules.specs.Covers.{wakes_by}
use Rattle.step_play.specs.Rules.Seen.{state_of}
use Rattle.core_machine.proofs.Views.Searches.{find_here, find_none, none_more}
use Rattle.core_machine.proofs.answers.above.waker_by.Goals as goal

pub loop-cpu-preserved : goal.loop-cpu-preserved
loop-cpu-preserved g c =
    none_more c.args.core.now (wakes_by (state_of c.args.core.now) c.args.time) c.loop-cpu.cpu
    c.loop-cpu.invariant (sym c.wakes_by.ensures ∙ c.if-wakes_by.false)

pub returns-then-wakes_by-clause-waker : goal.returns-then-wakes_by-clause-waker
returns-then-wakes_by-clause-waker g c =
    let low = c.loop-cpu-test.true in
    let count = c.count-cpu-end.ensures in
    sym (find_here c.args.core.now (wakes_by (state_of c.args.core.now) c.args.time)
    c.loop-cpu.cpu c.loop-cpu.invariant (omega (arith, low, count))
    (sym c.wakes_by.ensures ∙ c.if-wakes_by.true))

pub returns-clause-waker : goal.returns-clause-waker
returns-clause-waker g c =
    let high = c.loop-cpu-test.false in
    let count = c.count-cpu-end.ensures in
    sym (find_none c.args.core.now (wakes_by (state_of c.args.core.now) c.args.time)
    c.loop-cpu.cpu c.loop-cpu.invariant (omega (arith, high, count)))
