use Rattle.std.proofs.Common.{rules, sym, refl, arith, ◌∙◌}
use Rattle.std.proofs.lemmas.Result.{err_from_is_err_and}
use Rattle.play_rules.proofs.Plays.{gains_then}
use Rattle.play_driver.specs.Conditions.{IsMomentInRange}
use Rattle.play_driver.proofs.Scripts.{after_in_range, after_rise, from_said, rise_from, said_by_end}
use Rattle.core_plays.proofs.DeepTold.{all_told, breaks_told, nothing_told, one_told_at}
use Rattle.core_plays.proofs.sleeping.deep_moments.Goals as goal

pub loop-now-init : goal.loop-now-init
loop-now-init g c = rw c.as_slice-left.ensures (record {
  far = nothing_told _ _ _ _ _ _ _ _ _ _ refl refl c.requires.no_work;
  not_back = omega (arith, c.requires.start);
  by_end = omega arith;
  rise = c.requires.playable.rise;
  in_range = c.requires.playable.in_range;
  same = search rules;
  fit = c.requires.fit;
  device = c.requires.device;
  gains = search rules;
})

pub returns-then-work-limit-clause-fault : goal.returns-then-work-limit-clause-fault
returns-then-work-limit-clause-fault g c =
    let done = c.in_ok-deep_turn.ensures in
    rw (sym c.work_limit-limit.ensures)
    (breaks_told _ _ _ _ _ _ _ _ _ _ _ _ _ c.loop-now.invariant.far _ _ done.leaves.prints c.loop-now-test.true c.work-then-work-limit.result
    (omega (arith, c.if-work-limit.true, c.work.ensures, c.work-then-work-limit.ensures)) c.work-then-work-limit.ensures c.work-then-work-limit.type_inv)

pub loop-now-preserved : goal.loop-now-preserved
loop-now-preserved g c =
    let done = c.in_ok-deep_turn.ensures in
    let so_far = c.loop-now.invariant in
    let rises = after_rise _ _ _ so_far.rise in
    let said = said_by_end _ _ _ rises in
    let from = from_said _ _ _ rises (omega (arith, c.loop-now-test.true)) in
    rw (c.moment_after-now.ensures, c.still_to_come-left.ensures) (record {
      far = one_told_at _ _ _ _ _ _ _ _ _ _ _ _ _ so_far.far _ _ done.leaves.prints c.loop-now-test.true
          (omega (arith, c.if-work-limit.false, c.work.ensures)) c.work_limit-limit.type_inv (omega (arith, done.clock)) _ done.after;
      not_back = omega (arith, done.clock);
      by_end = omega (arith, done.clock, said, c.loop-now-test.true);
      rise = rise_from _ _ _ _ rises (omega (arith, done.clock, from));
      in_range = rw (done.leaves.same.cpus, done.leaves.same.timers) (after_in_range (IsMomentInRange (g.M.PlayMachine.rules.cpus (g.M.PlayMachine.world c.loop-now.machine)) (g.M.PlayMachine.rules.timers (g.M.PlayMachine.world c.loop-now.machine))) _ _ so_far.in_range);
      same = record { timers = done.leaves.same.timers ∙ so_far.same.timers; cpus = done.leaves.same.cpus ∙ so_far.same.cpus };
      fit = done.leaves.fit;
      device = done.settled;
      gains = gains_then _ _ _ so_far.gains done.leaves.gains;
    })

pub returns-clause-whole : goal.returns-clause-whole
returns-clause-whole g c =
    let done = c.in_ok-deep_turn-2.ensures in
    rw (sym c.work_limit-limit.ensures)
    (all_told _ _ _ _ _ _ _ _ _ _ _ _ _ c.loop-now.invariant.far _ _ done.leaves.prints (omega (arith, c.loop-now.invariant.by_end, c.loop-now-test.false)))

pub deep_turn-requires-clause-by_wakeups : goal.deep_turn-requires-clause-by_wakeups
deep_turn-requires-clause-by_wakeups g c = c.requires.by_wakeups

pub deep_turn-requires-clause-not_back : goal.deep_turn-requires-clause-not_back
deep_turn-requires-clause-not_back g c = c.loop-now.invariant.not_back

pub deep_turn-requires-clause-in_time : goal.deep_turn-requires-clause-in_time
deep_turn-requires-clause-in_time g c =
    omega (arith, c.loop-now-test.true, c.requires.playable.in_time)

pub deep_turn-requires-clause-in_range : goal.deep_turn-requires-clause-in_range
deep_turn-requires-clause-in_range g c = c.loop-now.invariant.in_range

pub deep_turn-requires-clause-fit : goal.deep_turn-requires-clause-fit
deep_turn-requires-clause-fit g c = c.loop-now.invariant.fit

pub deep_turn-requires-clause-device : goal.deep_turn-requires-clause-device
deep_turn-requires-clause-device g c = c.loop-now.invariant.device

pub returns-in_err-deep_turn-clause-whole : goal.returns-in_err-deep_turn-clause-whole
returns-in_err-deep_turn-clause-whole g c =
    let p = err_from_is_err_and c.from_residual.result c.from_residual.ensures.1 in rw p.1 tt

pub returns-in_err-deep_turn-clause-fault : goal.returns-in_err-deep_turn-clause-fault
returns-in_err-deep_turn-clause-fault g c =
    let p = err_from_is_err_and c.from_residual.result c.from_residual.ensures.1 in
    rw (p.1, p.2)
    (gains_then _ _ _ c.loop-now.invariant.gains c.in_err-deep_turn.ensures.leaves.gains)

pub returns-then-work-limit-clause-whole : goal.returns-then-work-limit-clause-whole
returns-then-work-limit-clause-whole g c = tt

pub moment_after-now-requires : goal.moment_after-now-requires
moment_after-now-requires g c =
    omega (
      arith,
      c.in_ok-deep_turn.ensures.clock,
      c.loop-now-test.true,
      c.requires.playable.in_time,
    )

pub loop-now-smaller : goal.loop-now-smaller
loop-now-smaller g c =
    rw c.moment_after-now.ensures
    (omega (arith, c.in_ok-deep_turn.ensures.clock, c.loop-now-test.true))

pub deep_turn-requires-2-clause-by_wakeups : goal.deep_turn-requires-2-clause-by_wakeups
deep_turn-requires-2-clause-by_wakeups g c = c.requires.by_wakeups

pub deep_turn-requires-2-clause-not_back : goal.deep_turn-requires-2-clause-not_back
deep_turn-requires-2-clause-not_back g c = c.loop-now.invariant.not_back

pub deep_turn-requires-2-clause-in_time : goal.deep_turn-requires-2-clause-in_time
deep_turn-requires-2-clause-in_time g c =
    omega (arith, c.loop-now.invariant.by_end, c.requires.playable.in_time)

pub deep_turn-requires-2-clause-in_range : goal.deep_turn-requires-2-clause-in_range
deep_turn-requires-2-clause-in_range g c = c.loop-now.invariant.in_range

pub deep_turn-requires-2-clause-fit : goal.deep_turn-requires-2-clause-fit
deep_turn-requires-2-clause-fit g c = c.loop-now.invariant.fit

pub deep_turn-requires-2-clause-device : goal.deep_turn-requires-2-clause-device
deep_turn-requires-2-clause-device g c = c.loop-now.invariant.device

pub returns-in_err-deep_turn-2-clause-whole : goal.returns-in_err-deep_turn-2-clause-whole
returns-in_err-deep_turn-2-clause-whole g c =
    let left = c.from_residual-in_err-deep_turn-2 in
    let p = err_from_is_err_and left.result left.ensures.1 in rw p.1 tt

pub returns-in_err-deep_turn-2-clause-fault : goal.returns-in_err-deep_turn-2-clause-fault
returns-in_err-deep_turn-2-clause-fault g c =
    let left = c.from_residual-in_err-deep_turn-2 in
    let p = err_from_is_err_and left.result left.ensures.1 in
    rw (p.1, p.2)
    (gains_then _ _ _ c.loop-now.invariant.gains c.in_err-deep_turn-2.ensures.leaves.gains)
