use Rattle.std.proofs.Common.{sym, arith, ◌∙◌}
use Rattle.std.proofs.lemmas.Result.{err_from_is_err_and}
use Rattle.play_rules.proofs.Loops.{looked_all, looked_more, looked_none}
use Rattle.play_rules.proofs.Plays.{gains_then}
use Rattle.play_driver.proofs.Parts.{inside_then}
use Rattle.play_driver.proofs.interrupts.look.Goals as goal

pub loop-turn-preserved : goal.loop-turn-preserved
loop-turn-preserved g c =
    let done = c.in_ok-try_one.ensures in
    record {
      rest = rw c.add.ensures.added (looked_more _ _ _ _ _ _ _ _ _ _ _ _ _ _ c.loop-turn.invariant.rest
          (omega (arith, c.loop-turn-test.true, c.cpus-turn-end.ensures.count)) (sym c.in-Some.ensures.named) done.prints);
      same = inside_then _ _ _ _ c.loop-turn.invariant.same done.same;
      fit = done.fit;
      gains = gains_then _ _ _ c.loop-turn.invariant.gains done.gains;
    }

pub returns-in_default : goal.returns-in_default
returns-in_default g c =
    record {
      prints = looked_none _ _ _ _ _ _ _ _ _ _ _ c.loop-turn.invariant.rest
          (omega (arith, c.loop-turn-test.true, c.cpus-turn-end.ensures.count)) (sym c.in_default.ensures.named);
      same = c.loop-turn.invariant.same;
      fit = c.loop-turn.invariant.fit;
      gains = c.loop-turn.invariant.gains;
    }

pub returns : goal.returns
returns g c =
    record {
      prints = looked_all _ _ _ _ _ _ _ _ _ _ _ c.loop-turn.invariant.rest
          (omega (arith, c.loop-turn-test.false, c.cpus-turn-end.ensures.count));
      same = c.loop-turn.invariant.same;
      fit = c.loop-turn.invariant.fit;
      gains = c.loop-turn.invariant.gains;
    }

pub named-requires-clause-cpu : goal.named-requires-clause-cpu
named-requires-clause-cpu g c =
    omega (arith, c.requires.cpu, c.loop-turn.invariant.same.same.cpus)

pub named-requires-clause-fit : goal.named-requires-clause-fit
named-requires-clause-fit g c = c.loop-turn.invariant.fit

pub try_one-requires-clause-cpu : goal.try_one-requires-clause-cpu
try_one-requires-clause-cpu g c =
    omega (arith, c.requires.cpu, c.loop-turn.invariant.same.same.cpus)

pub try_one-requires-clause-other : goal.try_one-requires-clause-other
try_one-requires-clause-other g c = c.in-Some.ensures.in_range

pub try_one-requires-clause-placed : goal.try_one-requires-clause-placed
try_one-requires-clause-placed g c =
    c.loop-turn.invariant.same.same.placed c.args.cpu.0 ∙ c.requires.placed

pub try_one-requires-clause-fit : goal.try_one-requires-clause-fit
try_one-requires-clause-fit g c = c.loop-turn.invariant.fit

pub returns-in_err-try_one : goal.returns-in_err-try_one
returns-in_err-try_one g c =
    let p = err_from_is_err_and c.from_residual.result c.from_residual.ensures.1 in
    rw p.1 (record {
      prints = tt;
      same = tt;
      fit = tt;
      gains = gains_then _ _ _ c.loop-turn.invariant.gains c.in_err-try_one.ensures.gains;
    })

pub add-requires : goal.add-requires
add-requires g c =
    omega (
      arith,
      c.in-Some.ensures.in_range,
      c.loop-turn.invariant.same.same.cpus,
      c.cpus-turn-end.ensures.count,
      c.cpus-turn-end.ensures.few,
    )
