use Rattle.std.proofs.Common.{sym, refl, arith, ◌∙◌}
use Rattle.std.proofs.lemmas.Result.{err_from_is_err_and}
use Rattle.play_rules.proofs.Plays.{gains_none, gains_then}
use Rattle.play_driver.specs.Conditions.{IsMomentInRange}
use Rattle.play_driver.specs.Outcomes.{script_turns}
use Rattle.play_driver.proofs.Scripts.{after_in_range, after_rise, from_said, rise_from, said_by_end}
use Rattle.play_driver.proofs.Turns.{all_counted, all_done, breaks_off, nothing_yet, one_more}
use Rattle.play_driver.proofs.moments.moments.Goals as goal

pub loop-now-init : goal.loop-now-init
loop-now-init g c = rw c.as_slice-left.ensures (record {
  far = nothing_yet _ _ _ _ _ _ _ _ refl c.requires.no_work;
  not_back = omega (arith, c.requires.start);
  by_end = omega arith;
  rise = c.requires.playable.rise;
  in_range = c.requires.playable.in_range;
  same = record { timers = refl; cpus = refl };
  fit = c.requires.fit;
  gains = gains_none _;
})

pub returns-then-work-limit-clause-fault : goal.returns-then-work-limit-clause-fault
returns-then-work-limit-clause-fault g c =
    let jobs = g.J.Jobs.replies c.args.jobs.now in
    let r = g.M.PlayMachine.rules in
    let world = g.M.PlayMachine.world in
    let script = c.args.script.now in
    let start = world c.args.machine.now in
    let at = c.loop-now in
    let spent = c.work-then-work-limit in
    rw (sym c.work_limit-limit.ensures)
    (breaks_off jobs r script.end c.work_limit-limit.result (script_turns jobs r script start) start
    c.args.telling.now at.now at.left.now (world at.machine) at.telling at.count at.invariant.far
    (world c.turn.new.machine) c.turn.new.telling
    c.in_ok-turn.ensures.leaves.prints c.loop-now-test.true spent.result
    (omega (arith, c.if-work-limit.true, c.work.ensures, spent.ensures)) spent.ensures
    spent.type_inv)

pub loop-now-preserved : goal.loop-now-preserved
loop-now-preserved g c =
    let jobs = g.J.Jobs.replies c.args.jobs.now in
    let r = g.M.PlayMachine.rules in
    let world = g.M.PlayMachine.world in
    let script = c.args.script.now in
    let start = world c.args.machine.now in
    let at = c.loop-now in
    let done = c.in_ok-turn.ensures in
    let so_far = at.invariant in
    let rises = after_rise _ _ _ so_far.rise in
    let said = said_by_end _ _ _ rises in
    let from = from_said _ _ _ rises (omega (arith, c.loop-now-test.true)) in
    rw (c.moment_after-now.ensures, c.still_to_come-left.ensures) (record {
      far = one_more jobs r script.end c.work_limit-limit.result
          (script_turns jobs r script start) start c.args.telling.now at.now at.left.now
          (world at.machine) at.telling at.count at.invariant.far (world c.turn.new.machine)
          c.turn.new.telling done.leaves.prints c.loop-now-test.true c.saturating_add-count.result
          c.saturating_add-count.ensures (omega (arith, c.if-work-limit.false, c.work.ensures))
          c.work_limit-limit.type_inv (omega (arith, done.clock));
      not_back = omega (arith, done.clock);
      by_end = omega (arith, done.clock, said, c.loop-now-test.true);
      rise = rise_from _ _ _ _ rises (omega (arith, done.clock, from));
      in_range = rw (done.leaves.same.cpus, done.leaves.same.timers)
          (after_in_range
          (IsMomentInRange (r.cpus (world at.machine)) (r.timers (world at.machine))) _ _
          so_far.in_range);
      same = record {
        timers = done.leaves.same.timers ∙ so_far.same.timers;
        cpus = done.leaves.same.cpus ∙ so_far.same.cpus;
      };
      fit = done.leaves.fit;
      gains = gains_then _ _ _ so_far.gains done.leaves.gains;
    })

pub returns-clause-whole : goal.returns-clause-whole
returns-clause-whole g c =
    let jobs = g.J.Jobs.replies c.args.jobs.now in
    let r = g.M.PlayMachine.rules in
    let world = g.M.PlayMachine.world in
    let script = c.args.script.now in
    let start = world c.args.machine.now in
    let at = c.loop-now in
    rw (sym c.work_limit-limit.ensures)
    (all_done jobs r script.end c.work_limit-limit.result (script_turns jobs r script start) start
    c.args.telling.now at.now at.left.now (world at.machine) at.telling at.count at.invariant.far
    (world c.turn-2.new.machine) c.turn-2.new.telling
    c.in_ok-turn-2.ensures.leaves.prints
    (omega (arith, at.invariant.by_end, c.loop-now-test.false)))

pub returns-clause-count : goal.returns-clause-count
returns-clause-count g c =
    let jobs = g.J.Jobs.replies c.args.jobs.now in
    let r = g.M.PlayMachine.rules in
    let world = g.M.PlayMachine.world in
    let script = c.args.script.now in
    let start = world c.args.machine.now in
    let at = c.loop-now in
    all_counted jobs r script.end c.work_limit-limit.result (script_turns jobs r script start) start
    c.args.telling.now at.now at.left.now (world at.machine) at.telling at.count at.invariant.far
    (world c.turn-2.new.machine) c.turn-2.new.telling
    c.in_ok-turn-2.ensures.leaves.prints
    (omega (arith, at.invariant.by_end, c.loop-now-test.false)) c.saturating_add.result
    c.saturating_add.ensures

pub turn-requires-clause-not_back : goal.turn-requires-clause-not_back
turn-requires-clause-not_back g c = c.loop-now.invariant.not_back

pub turn-requires-clause-in_time : goal.turn-requires-clause-in_time
turn-requires-clause-in_time g c =
    omega (arith, c.loop-now-test.true, c.requires.playable.in_time)

pub turn-requires-clause-in_range : goal.turn-requires-clause-in_range
turn-requires-clause-in_range g c = c.loop-now.invariant.in_range

pub turn-requires-clause-fit : goal.turn-requires-clause-fit
turn-requires-clause-fit g c = c.loop-now.invariant.fit

pub returns-in_err-turn-clause-whole : goal.returns-in_err-turn-clause-whole
returns-in_err-turn-clause-whole g c =
    let left = c.from_residual in
    let p = err_from_is_err_and left.result left.ensures.1 in rw p.1 tt

pub returns-in_err-turn-clause-count : goal.returns-in_err-turn-clause-count
returns-in_err-turn-clause-count g c =
    let left = c.from_residual in
    let p = err_from_is_err_and left.result left.ensures.1 in rw p.1 tt

pub returns-in_err-turn-clause-fit : goal.returns-in_err-turn-clause-fit
returns-in_err-turn-clause-fit g c =
    let left = c.from_residual in
    let p = err_from_is_err_and left.result left.ensures.1 in rw p.1 tt

pub returns-in_err-turn-clause-fault : goal.returns-in_err-turn-clause-fault
returns-in_err-turn-clause-fault g c =
    let left = c.from_residual in
    let p = err_from_is_err_and left.result left.ensures.1 in
    rw (p.1, p.2) (gains_then _ _ _ c.loop-now.invariant.gains c.in_err-turn.ensures.leaves.gains)

pub returns-in_err-turn-clause-gains : goal.returns-in_err-turn-clause-gains
returns-in_err-turn-clause-gains g c =
    gains_then _ _ _ c.loop-now.invariant.gains c.in_err-turn.ensures.leaves.gains

pub turn-requires-2-clause-not_back : goal.turn-requires-2-clause-not_back
turn-requires-2-clause-not_back g c = c.loop-now.invariant.not_back

pub turn-requires-2-clause-in_time : goal.turn-requires-2-clause-in_time
turn-requires-2-clause-in_time g c =
    omega (arith, c.loop-now.invariant.by_end, c.requires.playable.in_time)

pub turn-requires-2-clause-in_range : goal.turn-requires-2-clause-in_range
turn-requires-2-clause-in_range g c = c.loop-now.invariant.in_range

pub turn-requires-2-clause-fit : goal.turn-requires-2-clause-fit
turn-requires-2-clause-fit g c = c.loop-now.invariant.fit

pub returns-in_err-turn-2-clause-whole : goal.returns-in_err-turn-2-clause-whole
returns-in_err-turn-2-clause-whole g c =
    let left = c.from_residual-in_err-turn-2 in
    let p = err_from_is_err_and left.result left.ensures.1 in rw p.1 tt

pub returns-in_err-turn-2-clause-count : goal.returns-in_err-turn-2-clause-count
returns-in_err-turn-2-clause-count g c =
    let left = c.from_residual-in_err-turn-2 in
    let p = err_from_is_err_and left.result left.ensures.1 in rw p.1 tt

pub returns-in_err-turn-2-clause-fit : goal.returns-in_err-turn-2-clause-fit
returns-in_err-turn-2-clause-fit g c =
    let left = c.from_residual-in_err-turn-2 in
    let p = err_from_is_err_and left.result left.ensures.1 in rw p.1 tt

pub returns-in_err-turn-2-clause-fault : goal.returns-in_err-turn-2-clause-fault
returns-in_err-turn-2-clause-fault g c =
    let left = c.from_residual-in_err-turn-2 in
    let p = err_from_is_err_and left.result left.ensures.1 in
    rw (p.1, p.2) (gains_then _ _ _ c.loop-now.invariant.gains c.in_err-turn-2.ensures.leaves.gains)

pub returns-in_err-turn-2-clause-gains : goal.returns-in_err-turn-2-clause-gains
returns-in_err-turn-2-clause-gains g c =
    gains_then _ _ _ c.loop-now.invariant.gains c.in_err-turn-2.ensures.leaves.gains

pub returns-then-work-limit-clause-whole : goal.returns-then-work-limit-clause-whole
returns-then-work-limit-clause-whole g c = tt

pub returns-then-work-limit-clause-count : goal.returns-then-work-limit-clause-count
returns-then-work-limit-clause-count g c = tt

pub returns-then-work-limit-clause-fit : goal.returns-then-work-limit-clause-fit
returns-then-work-limit-clause-fit g c = tt

pub returns-then-work-limit-clause-gains : goal.returns-then-work-limit-clause-gains
returns-then-work-limit-clause-gains g c =
    gains_then _ _ _ c.loop-now.invariant.gains c.in_ok-turn.ensures.leaves.gains

pub moment_after-now-requires : goal.moment_after-now-requires
moment_after-now-requires g c =
    omega (arith, c.in_ok-turn.ensures.clock, c.loop-now-test.true, c.requires.playable.in_time)

pub loop-now-smaller : goal.loop-now-smaller
loop-now-smaller g c =
    rw c.moment_after-now.ensures
    (omega (arith, c.in_ok-turn.ensures.clock, c.loop-now-test.true))

pub returns-clause-fault : goal.returns-clause-fault
returns-clause-fault g c = tt

pub returns-clause-fit : goal.returns-clause-fit
returns-clause-fit g c = c.in_ok-turn-2.ensures.leaves.fit

pub returns-clause-gains : goal.returns-clause-gains
returns-clause-gains g c =
    gains_then _ _ _ c.loop-now.invariant.gains c.in_ok-turn-2.ensures.leaves.gains
