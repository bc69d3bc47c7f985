use Rattle.std.proofs.Common.{refl, sym, arith, ◌∙◌}
use Rattle.std.proofs.lemmas.Result.{err_from_is_err_and}
use Rattle.play_rules.proofs.Loops.{looks_all, looks_more, looks_stop}
use Rattle.play_rules.proofs.Plays.{gains_then}
use Rattle.play_driver.proofs.Parts.{inside_then}
use Rattle.play_driver.proofs.interrupts.looks.Goals as goal

pub returns-then-not-looks_after : goal.returns-then-not-looks_after
returns-then-not-looks_after g c =
    record {
      prints = looks_stop _ _ _ _ _ _ _ _ _ c.loop-level.invariant.rest
          (omega (arith, c.loop-level-test.true, c.levels-level-end.ensures))
          (sym c.looks_after.ensures.looks ∙ c.if-not-looks_after.true);
      same = c.loop-level.invariant.same;
      fit = c.loop-level.invariant.fit;
      gains = c.loop-level.invariant.gains;
    }

pub loop-level-preserved : goal.loop-level-preserved
loop-level-preserved g c =
    let done = c.in_ok-look.ensures in
    record {
      rest = looks_more _ _ _ _ _ _ _ _ _ _ _ _ c.loop-level.invariant.rest
          (omega (arith, c.loop-level-test.true, c.levels-level-end.ensures))
          (sym c.looks_after.ensures.looks ∙ c.if-not-looks_after.false) refl done.prints;
      same = inside_then _ _ _ _ c.loop-level.invariant.same done.same;
      fit = done.fit;
      gains = gains_then _ _ _ c.loop-level.invariant.gains done.gains;
    }

pub returns : goal.returns
returns g c =
    record {
      prints = looks_all _ _ _ _ _ _ _ _ _ c.loop-level.invariant.rest
          (omega (arith, c.loop-level-test.false, c.levels-level-end.ensures));
      same = c.loop-level.invariant.same;
      fit = c.loop-level.invariant.fit;
      gains = c.loop-level.invariant.gains;
    }

pub looks_after-requires-clause-cpu : goal.looks_after-requires-clause-cpu
looks_after-requires-clause-cpu g c =
    omega (arith, c.requires.cpu, c.loop-level.invariant.same.same.cpus)

pub looks_after-requires-clause-fit : goal.looks_after-requires-clause-fit
looks_after-requires-clause-fit g c = c.loop-level.invariant.fit

pub look-requires-clause-cpu : goal.look-requires-clause-cpu
look-requires-clause-cpu g c =
    omega (arith, c.requires.cpu, c.loop-level.invariant.same.same.cpus)

pub look-requires-clause-placed : goal.look-requires-clause-placed
look-requires-clause-placed g c = c.looks_after.ensures.placed c.if-not-looks_after.false

pub look-requires-clause-fit : goal.look-requires-clause-fit
look-requires-clause-fit g c = c.loop-level.invariant.fit

pub returns-in_err-look : goal.returns-in_err-look
returns-in_err-look g c =
    let p = err_from_is_err_and c.from_residual.result c.from_residual.ensures.1 in
    rw p.1 (record {
      prints = tt;
      same = tt;
      fit = tt;
      gains = gains_then _ _ _ c.loop-level.invariant.gains c.in_err-look.ensures.gains;
    })
