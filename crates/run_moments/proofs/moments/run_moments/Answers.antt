use Rattle.std.proofs.Common.{rules, arith, ap, subst, length}
use Rattle.std.proofs.lemmas.Result.{err_from_is_err_and}
use Rattle.play_rules.proofs.Plays.{gains_then}
use Rattle.core_world.specs.World.{World}
use Rattle.run_plain.specs.step_play.SamePlay.{core_start}
use Rattle.play_driver.specs.Outcomes.{work_limit}
use Rattle.run_moments.specs.Runs.{IsRunMoment}
use Rattle.play_driver.proofs.Scripts.{after_in_range, after_rise, from_said, rise_from}
use Rattle.play_driver.proofs.Scripts.{said_by_end}
use Rattle.run_moments.proofs.StoryTurns.{SoFar, all_done, breaks_off, nothing_yet, one_more}
use Rattle.run_moments.proofs.moments.run_moments.Goals as goal

pub loop-now-init : goal.loop-now-init
loop-now-init g c =
    let script = c.args.script.now in
    let told = c.args.telling.now in
    rw c.as_slice-left.ensures (record {
      far = subst (λ (w : World). SoFar (g.J.Jobs.replies c.args.jobs.now) script.end (work_limit script.version) script.moments w told.text 0 script.moments c.args.player told)
          c.requires.start (nothing_yet _ _ _ _ _ _ c.requires.no_work);
      not_back = omega (arith, ap (λ (w : World). w.clock) c.requires.start);
      by_end = omega arith;
      rise = c.requires.playable.rise;
      in_range = λ k m few. record {
        in_range = c.requires.playable.in_range k m few;
        few = c.requires.few k m few;
      };
      fit = c.requires.fit;
      gains = search rules;
    })

pub returns-then-work-limit-clause-fault : goal.returns-then-work-limit-clause-fault
returns-then-work-limit-clause-fault g c =
    let done = c.in_ok-player.ensures in
    breaks_off (g.J.Jobs.replies c.args.jobs.now) c.args.script.now c.args.telling.now.text c.loop-now.now c.loop-now.left.now c.loop-now.player c.loop-now.telling
    c.loop-now.invariant.far c.in_ok-player.player c.run_turn.new.telling done.tells c.law_each_settled.ensures done.fit
    c.loop-now-test.true c.work-then-work-limit.result
    (omega (arith, c.if-work-limit.true, c.work.ensures, c.work-then-work-limit.ensures, c.work_limit-limit.ensures))
    c.work-then-work-limit.ensures c.work-then-work-limit.type_inv

pub returns-then-work-limit-clause-gains : goal.returns-then-work-limit-clause-gains
returns-then-work-limit-clause-gains g c =
    gains_then _ _ _ c.loop-now.invariant.gains c.run_turn.ensures.gains

pub returns-clause-gains : goal.returns-clause-gains
returns-clause-gains g c = gains_then _ _ _ c.loop-now.invariant.gains c.run_turn-2.ensures.gains

pub loop-now-preserved : goal.loop-now-preserved
loop-now-preserved g c =
    let script = c.args.script.now in
    let done = c.in_ok-player.ensures in
    let so_far = c.loop-now.invariant in
    let rises = after_rise _ _ _ so_far.rise in
    let said = said_by_end _ _ _ rises in
    let from = from_said _ _ _ rises (omega (arith, c.loop-now-test.true)) in
    rw (c.moment_after-now.ensures, c.still_to_come-left.ensures) (record {
      far = one_more (g.J.Jobs.replies c.args.jobs.now) script.end (work_limit script.version) script.moments (core_start script) c.args.telling.now.text
          c.loop-now.now c.loop-now.left.now c.loop-now.player c.loop-now.telling so_far.far c.in_ok-player.player c.run_turn.new.telling done.tells c.law_each_settled.ensures done.fit
          c.loop-now-test.true (omega (arith, c.if-work-limit.false, c.work.ensures, c.work_limit-limit.ensures))
          (omega (arith, c.work_limit-limit.type_inv, c.work_limit-limit.ensures));
      not_back = omega (arith, done.clock);
      by_end = omega (arith, done.clock, said, c.loop-now-test.true);
      rise = rise_from _ _ _ _ rises (omega (arith, done.clock, from));
      in_range = rw (done.same.cpus, done.same.timers) (after_in_range (IsRunMoment (length c.loop-now.player.cpus) c.loop-now.player.timers) _ _ so_far.in_range);
      fit = done.fit;
      gains = gains_then _ _ _ so_far.gains done.gains;
    })

pub returns-clause-whole : goal.returns-clause-whole
returns-clause-whole g c =
    let done = c.in_ok-player-2.ensures in
    all_done (g.J.Jobs.replies c.args.jobs.now) c.args.script.now c.args.telling.now.text c.loop-now.now c.loop-now.left.now c.loop-now.player c.loop-now.telling
    c.loop-now.invariant.far c.in_ok-player-2.player c.run_turn-2.new.telling done.tells c.law_each_settled.ensures done.fit
    (omega (arith, c.loop-now.invariant.by_end, c.loop-now-test.false))

pub run_turn-requires-clause-not_back : goal.run_turn-requires-clause-not_back
run_turn-requires-clause-not_back g c = c.loop-now.invariant.not_back

pub run_turn-requires-clause-in_time : goal.run_turn-requires-clause-in_time
run_turn-requires-clause-in_time g c =
    omega (arith, c.loop-now-test.true, c.requires.playable.in_time)

pub run_turn-requires-clause-in_range : goal.run_turn-requires-clause-in_range
run_turn-requires-clause-in_range g c = c.loop-now.invariant.in_range

pub run_turn-requires-clause-fit : goal.run_turn-requires-clause-fit
run_turn-requires-clause-fit g c = c.loop-now.invariant.fit

pub returns-in_err-player-clause-whole : goal.returns-in_err-player-clause-whole
returns-in_err-player-clause-whole g c =
    let p = err_from_is_err_and c.from_residual.result c.from_residual.ensures.1 in rw p.1 tt

pub returns-in_err-player-clause-fault : goal.returns-in_err-player-clause-fault
returns-in_err-player-clause-fault g c =
    let p = err_from_is_err_and c.from_residual.result c.from_residual.ensures.1 in
    rw (p.1, p.2) (gains_then _ _ _ c.loop-now.invariant.gains c.in_err-player.ensures.gains)

pub returns-in_err-player-clause-gains : goal.returns-in_err-player-clause-gains
returns-in_err-player-clause-gains g c =
    gains_then _ _ _ c.loop-now.invariant.gains c.in_err-player.ensures.gains

pub returns-then-work-limit-clause-whole : goal.returns-then-work-limit-clause-whole
returns-then-work-limit-clause-whole g c = tt

pub moment_after-now-requires : goal.moment_after-now-requires
moment_after-now-requires g c =
    omega (arith, c.in_ok-player.ensures.clock, c.loop-now-test.true, c.requires.playable.in_time)

pub loop-now-smaller : goal.loop-now-smaller
loop-now-smaller g c =
    rw c.moment_after-now.ensures
    (omega (arith, c.in_ok-player.ensures.clock, c.loop-now-test.true))

pub run_turn-requires-2-clause-not_back : goal.run_turn-requires-2-clause-not_back
run_turn-requires-2-clause-not_back g c = c.loop-now.invariant.not_back

pub run_turn-requires-2-clause-in_time : goal.run_turn-requires-2-clause-in_time
run_turn-requires-2-clause-in_time g c =
    omega (arith, c.loop-now.invariant.by_end, c.requires.playable.in_time)

pub run_turn-requires-2-clause-in_range : goal.run_turn-requires-2-clause-in_range
run_turn-requires-2-clause-in_range g c = c.loop-now.invariant.in_range

pub run_turn-requires-2-clause-fit : goal.run_turn-requires-2-clause-fit
run_turn-requires-2-clause-fit g c = c.loop-now.invariant.fit

pub returns-in_err-player-2-clause-whole : goal.returns-in_err-player-2-clause-whole
returns-in_err-player-2-clause-whole g c =
    let left = c.from_residual-in_err-player-2 in
    let p = err_from_is_err_and left.result left.ensures.1 in rw p.1 tt

pub returns-in_err-player-2-clause-fault : goal.returns-in_err-player-2-clause-fault
returns-in_err-player-2-clause-fault g c =
    let left = c.from_residual-in_err-player-2 in
    let p = err_from_is_err_and left.result left.ensures.1 in
    rw (p.1, p.2) (gains_then _ _ _ c.loop-now.invariant.gains c.in_err-player-2.ensures.gains)

pub returns-in_err-player-2-clause-gains : goal.returns-in_err-player-2-clause-gains
returns-in_err-player-2-clause-gains g c =
    gains_then _ _ _ c.loop-now.invariant.gains c.in_err-player-2.ensures.gains
